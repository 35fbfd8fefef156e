-- Cells, reads, lines and gates of the written netlist, by their sites.
use Rattle.std.specs.Prelude.{◌≡◌, ◌==◌, ◌&&◌, ℕ, Bool, true, List, map, filter}
use Rattle.std.specs.List.{list_any}
use Rattle.std.specs.Str.{bytes_eq}
use Rattle.bb_base.specs.Net.{Gate, renamed_gate}
use Rattle.bb_base.specs.Named.{Named}
use Rattle.bb_net.specs.Sites.{Site, sited}
use Rattle.bb_terms.specs.Paths.{AtNet, IsLeaf}
use Rattle.bb_terms.specs.declared.plan.Cell.{Cell}
use Rattle.bb_terms.specs.Kinds.{is_source, is_observer}
use Rattle.bb_terms.specs.Plan.{PlanValue, chain, IsCell}
use Rattle.bb_terms.specs.Reads.{q_of, qs_from, read, line}
use Rattle.bb_written.specs.Written.{wire_site, written_gate}

-- cell i of the chain is c, of register r, and it observes its line
pub record IsObserver (p : PlanValue) (i r : ℕ) (c : Cell) : Type 0 where
  pub stands : IsCell p i r c
  pub observes : is_observer c.kind ≡ true

-- the bit of cell i
abbrev pub q_site : Named → ℕ → Cell → Site
q_site a i c = wire_site a (q_of i c)

-- the bits of these cells, of which the first has number i
abbrev pub q_sites_from : Named → ℕ → List Cell → List Site
q_sites_from a i cells = map (wire_site a) (qs_from i cells)

-- what is read of a net of the original
abbrev pub read_site : Named → PlanValue → ℕ → Site
read_site a p net = wire_site a (read p net)

-- what a cell observes
abbrev pub line_site : Named → PlanValue → Cell → Site
line_site a p c = wire_site a (line a.netlist p c)

-- two sites are one
abbrev pub same_site : Site → Site → Bool
same_site s t = bytes_eq s.name t.name && (s.place == t.place)

-- the site is what is read of a source cell's net
abbrev pub is_read_site : Named → PlanValue → Site → Bool
is_read_site a p s = list_any (same_site s) (map (λ c. read_site a p c.net) (filter (λ c. is_source c.kind) (chain p)))

-- a gate of the original as it stands in the written netlist
abbrev pub sited_gate : Named → PlanValue → Gate ℕ → Gate Site
sited_gate a p g = renamed_gate (wire_site a) (written_gate p g)

-- a leaf of a cell's line in the written netlist b: the walk back from the line ends there, at a read
abbrev pub IsWrittenLeaf : Named → Named → PlanValue → Cell → Site → Type 0
IsWrittenLeaf a b p c s = IsLeaf (sited b).netlist.gates (is_read_site a p) (AtNet (line_site a p c)) s
