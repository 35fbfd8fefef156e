-- Cover: each gate of the original from which a path leads to an output or to a flip-flop's d stands in the written netlist and lies in
-- the segment of an observer.
use Rattle.std.specs.Prelude.{ℕ, Contains}
use Rattle.bb_base.specs.Net.{Gate}
use Rattle.bb_base.specs.Named.{Named}
use Rattle.bb_net.specs.Sites.{sited}
use Rattle.bb_terms.specs.Paths.{AtNet, LiesBehind}
use Rattle.bb_terms.specs.declared.plan.Cell.{Cell}
use Rattle.bb_rules.specs.Covered.{IsUsed}
use Rattle.bb_terms.specs.Plan.{PlanValue}
use Rattle.bb_selftest.specs.WrittenLines.{IsObserver, line_site, is_read_site, sited_gate}

-- the net of the same name is driven by the same operator, from the reads of the same inputs, and an observer's walk passes that gate
pub record LiesInSegment (a b : Named) (p : PlanValue) (g : Gate ℕ) : Type 0 where
  pub stands : Contains (sited b).netlist.gates (sited_gate a p g)
  pub i : ℕ
  pub r : ℕ
  pub cell : Cell
  pub observer : IsObserver p i r cell
  pub lies : LiesBehind (sited b).netlist.gates (is_read_site a p) (AtNet (line_site a p cell)) (sited_gate a p g)

abbrev pub Covers : Named → Named → PlanValue → Type 0
Covers a b p = (g : Gate ℕ) → Contains a.netlist.gates g → IsUsed a.netlist g → LiesInSegment a b p g
