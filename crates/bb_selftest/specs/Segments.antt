-- Segments over symbols: the walk back from a line through the written gates, beside the walk in the original.
use Rattle.std.specs.Prelude.{◌≡◌, ◌↔◌, ◌⊎◌, ℕ, Bool, true, [], ◌∷◌, ◌++◌, Contains}
use Rattle.bb_base.specs.Net.{Gate, Netlist, driven, reads}
use Rattle.bb_terms.specs.Paths.{Start, AtNet, IsReached, IsLeaf, LiesBehind, LiesIn}
use Rattle.bb_terms.specs.declared.plan.Cell.{Cell}
use Rattle.bb_terms.specs.Kinds.{is_source}
use Rattle.bb_terms.specs.Plan.{PlanValue, chain}
use Rattle.bb_terms.specs.Lines.{is_stop}
use Rattle.bb_terms.specs.declared.wire.Wire.{Wire}
use Rattle.bb_terms.specs.Reads.{read, line}
use Rattle.bb_written.specs.Written.{written_gate, written_netlist}

-- the net is driven or read
abbrev pub IsNetOf : {N : Type 0} → Netlist N → N → Type 0
IsNetOf n net = Contains (driven n ++ reads n) net

-- the symbol is what is read of a source cell's net
pub record IsSourceRead (p : PlanValue) (w : Wire) : Type 0 where
  pub source : Cell
  pub stands : Contains (chain p) source
  pub generates : is_source source.kind ≡ true
  pub is : read p source.net ≡ w

-- walks stop at what is read of source cells, and nowhere else
abbrev pub StopsAtReads : Netlist ℕ → PlanValue → (Wire → Bool) → Type 0
StopsAtReads a p stop = (w : Wire) → IsNetOf (written_netlist a p) w → (stop w ≡ true) ↔ IsSourceRead p w

-- the cell's line, whose walk begins here in the original, has the original's segment
pub record HasSameSegment (a : Netlist ℕ) (p : PlanValue) (stop : Wire → Bool) (c : Cell) (start : Start ℕ) : Type 0 where
  -- the walk passes the gates of the segment, which read what is read of their inputs, and no others
  pub passed : (h : Gate Wire) → Contains (written_netlist a p).gates h
      → LiesBehind (written_netlist a p).gates stop (AtNet (line a p c)) h ↔ ((g : Gate ℕ) × Contains a.gates g × LiesIn a.gates (is_stop a p) start g × (written_gate p g ≡ h))
  -- its leaves are what is read of the leaves
  pub leaves : (w : Wire) → IsLeaf (written_netlist a p).gates stop (AtNet (line a p c)) w ↔ ((net : ℕ) × IsLeaf a.gates (is_stop a p) start net × (read p net ≡ w))
  -- each net on it is such a leaf or a gate's
  pub ends : (w : Wire) → IsReached (written_netlist a p).gates stop (line a p c ∷ []) w → (stop w ≡ true) ⊎ ((g : Gate Wire) × Contains (written_netlist a p).gates g × (g.out ≡ w))
