-- The segment of a line, at sites: its gates are those of the line's segment in the original, and its leaves the reads of that one's.
use Rattle.std.specs.Prelude.{◌≡◌, ◌↔◌, ℕ, Contains}
use Rattle.bb_base.specs.Net.{Gate}
use Rattle.bb_base.specs.Named.{Named}
use Rattle.bb_net.specs.Sites.{Site, sited}
use Rattle.bb_terms.specs.Paths.{Start, AtNet, IsLeaf, LiesBehind, LiesIn}
use Rattle.bb_terms.specs.declared.plan.Cell.{Cell}
use Rattle.bb_terms.specs.Lines.{is_stop}
use Rattle.bb_terms.specs.Plan.{PlanValue}
use Rattle.bb_selftest.specs.WrittenLines.{read_site, line_site, is_read_site, sited_gate, IsWrittenLeaf}

-- the cell's line, whose walk begins here in the original, has the original's segment
pub record HasSegment (a b : Named) (p : PlanValue) (c : Cell) (start : Start ℕ) : Type 0 where
  -- the walk passes the gates of the segment, which read what is read of their inputs, and no others
  pub passed : (h : Gate Site) → Contains (sited b).netlist.gates h
      → LiesBehind (sited b).netlist.gates (is_read_site a p) (AtNet (line_site a p c)) h
      ↔ ((g : Gate ℕ) × Contains a.netlist.gates g × LiesIn a.netlist.gates (is_stop a.netlist p) start g × (sited_gate a p g ≡ h))
  -- and its leaves are what is read of the leaves
  pub leaves : (s : Site) → IsWrittenLeaf a b p c s ↔ ((net : ℕ) × IsLeaf a.netlist.gates (is_stop a.netlist p) start net × (read_site a p net ≡ s))
