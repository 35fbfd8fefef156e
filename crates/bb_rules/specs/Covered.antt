-- Which gates matter, and which lie in the segment of an observer.
use Rattle.std.specs.Prelude.{◌≡◌, ℕ, true, false, ◌++◌, map, Contains}
use Rattle.bb_base.specs.Net.{Gate, Netlist}
use Rattle.bb_terms.specs.Paths.{Start, IsReached, LiesIn}
use Rattle.bb_terms.specs.declared.plan.Cell.{Cell}
use Rattle.bb_terms.specs.Kinds.{is_observer}
use Rattle.bb_terms.specs.Plan.{PlanValue, chain}
use Rattle.bb_terms.specs.Lines.{is_stop, IsStart}

-- a path through gates leads from the gate to an output or to a flip-flop's d
abbrev pub IsUsed : Netlist ℕ → Gate ℕ → Type 0
IsUsed a g = IsReached a.gates (λ net. false) (a.outputs ++ map (λ f. f.d) a.flops) g.out

-- the gate lies in the segment of an observer
pub record IsCovered (a : Netlist ℕ) (p : PlanValue) (g : Gate ℕ) : Type 0 where
  pub cell : Cell
  pub stands : Contains (chain p) cell
  pub observes : is_observer cell.kind ≡ true
  pub start : Start ℕ
  pub begins : IsStart a cell start
  pub lies : LiesIn a.gates (is_stop a p) start g
