-- Valid plans, with the segment of each observer, and the first rule that fails.
use Rattle.std.specs.Prelude.{◌≡◌, ◌↔◌, ℕ, ◌<◌, true, List, map, Some, slice_get, slice_index, Contains}
use Rattle.std.specs.List.{AllZip}
use Rattle.std.specs.List.Sorted.{IsStrictlyIncreasing}
use Rattle.bb_base.specs.Net.{Netlist}
use Rattle.bb_base.specs.Dual.{AreLeastDuals}
use Rattle.bb_base.specs.Order.{HasOrder}
use Rattle.bb_terms.specs.declared.plan.Cell.{Cell}
use Rattle.bb_terms.specs.Kinds.{is_source}
use Rattle.bb_terms.specs.Plan.{PlanValue, chain, observers}
use Rattle.bb_terms.specs.Lines.{IsLeafOf}
use Rattle.bb_terms.specs.Rules.{Rule, rule_number, Holds, FailsAt}

-- the netlist has an order, and the plan meets every rule
pub record IsValidPlan (a : Netlist ℕ) (p : PlanValue) : Type 0 where
  pub order : HasOrder a.gates
  pub meets : (rule : Rule) → Holds a p rule

-- the rule of this number is the first that fails, first at this place
pub record IsRuleFault (a : Netlist ℕ) (p : PlanValue) (number place : ℕ) : Type 0 where
  pub rule : Rule
  pub number_is : number ≡ rule_number rule
  pub before : (earlier : Rule) → rule_number earlier < number → Holds a p earlier
  pub fails : FailsAt a p rule place

-- an observer's cell number, the cell numbers of its leaves' sources, and their duals
pub record SegmentValue : Type 0 where
  pub cell : ℕ
  pub leaves : List ℕ
  pub duals : List ℕ

-- the column of a cell of the chain, by its number
abbrev pub column_at : PlanValue → ℕ → ℕ
column_at p i = slice_index (map (λ c. c.column) (chain p)) i

-- cell i of the chain is the source at a leaf of the line of c
pub record IsSourceOf (a : Netlist ℕ) (p : PlanValue) (c : Cell) (i : ℕ) : Type 0 where
  pub source : Cell
  pub stands : slice_get (chain p) i ≡ Some source
  pub generates : is_source source.kind ≡ true
  pub leaf : IsLeafOf a p c source.net

-- the segment of this observer
pub record IsSegmentOf (a : Netlist ℕ) (p : PlanValue) (observer : ℕ × Cell) (segment : SegmentValue) : Type 0 where
  pub cell : segment.cell ≡ observer.0
  pub ascending : IsStrictlyIncreasing segment.leaves
  pub each : (i : ℕ) → Contains segment.leaves i ↔ IsSourceOf a p observer.1 i
  pub duals : AreLeastDuals (map (column_at p) segment.leaves) segment.duals

-- a plan with its segments, one an observer in the order of the chain
pub record ValidValue : Type 0 where
  pub plan : PlanValue
  pub segments : List SegmentValue

-- the plan is valid for the netlist, and the segments are its segments
pub record IsValidFor (a : Netlist ℕ) (valid : ValidValue) : Type 0 where
  pub plan_valid : IsValidPlan a valid.plan
  pub each : AllZip (IsSegmentOf a valid.plan) (observers valid.plan) valid.segments
