-- A worked plan with a flip-flop that reads itself: net 0 is its q, and net 1 its d, which is the other bit.
use Rattle.std.specs.Prelude.{ℕ, List, [], ◌∷◌, map}
use Rattle.bb_base.specs.declared.operator.Op.TheVariants.{Not}
use Rattle.bb_base.specs.Net.{Netlist}
use Rattle.bb_terms.specs.declared.kind.Kind.TheVariants.{Split, Watch}
use Rattle.bb_terms.specs.declared.plan.Cell.{Cell}
use Rattle.bb_terms.specs.Plan.{PlanValue}
use Rattle.bb_terms.specs.Valid.{ValidValue}
use Rattle.bb_rules.specs.Half.{cell_on}

abbrev pub toggle : Netlist ℕ
toggle = record { inputs = []; outputs = 0 ∷ []; gates = record { op = Not; out = 1; ins = 0 ∷ [] } ∷ []; flops = record { q = 0; d = 1 } ∷ [] }

-- registers with these cells, and these sessions
abbrev pub toggle_with : List (List Cell) → List (List ℕ) → PlanValue
toggle_with registers sessions = record { width = 1; degree = 1; mask = 1; registers = map (λ cells. record { mask = 1; cells = cells }) registers; sessions = sessions }

-- the source and the observer in registers of their own
abbrev pub toggle_plan : PlanValue
toggle_plan = toggle_with ((cell_on Split 0 1 ∷ []) ∷ (cell_on Watch 0 0 ∷ []) ∷ []) ((1 ∷ []) ∷ [])

abbrev pub toggle_valid : ValidValue
toggle_valid = record { plan = toggle_plan; segments = record { cell = 1; leaves = 0 ∷ []; duals = 1 ∷ [] } ∷ [] }
