-- A worked plan: the half adder at width 2, with nets a, b, s and c.
use Rattle.std.specs.Prelude.{ℕ, List, [], ◌∷◌}
use Rattle.bb_base.specs.declared.operator.Op.TheVariants.{And, Xor}
use Rattle.bb_base.specs.Net.{Netlist}
use Rattle.bb_terms.specs.declared.kind.Kind.{Kind}
use Rattle.bb_terms.specs.declared.kind.Kind.TheVariants.{Input, Output}
use Rattle.bb_terms.specs.declared.plan.Cell.{Cell}
use Rattle.bb_terms.specs.Plan.{PlanValue}
use Rattle.bb_terms.specs.Valid.{ValidValue}

abbrev pub half : Netlist ℕ
half = record {
  inputs = 0 ∷ 1 ∷ [];
  outputs = 2 ∷ 3 ∷ [];
  gates = record { op = Xor; out = 2; ins = 0 ∷ 1 ∷ [] } ∷ record { op = And; out = 3; ins = 0 ∷ 1 ∷ [] } ∷ [];
  flops = [];
}

abbrev pub cell_on : Kind → ℕ → ℕ → Cell
cell_on kind net column = record { kind = kind; net = net; column = column }

-- with this mask, this column of net b, and these sessions
abbrev pub half_with : ℕ → ℕ → List (List ℕ) → PlanValue
half_with mask column sessions = record {
  width = 2;
  degree = 2;
  mask = mask;
  registers = record { mask = 3; cells = cell_on Input 0 1 ∷ cell_on Input 1 column ∷ [] } ∷ record { mask = 3; cells = cell_on Output 2 0 ∷ cell_on Output 3 0 ∷ [] } ∷ [];
  sessions = sessions;
}

abbrev pub half_plan : PlanValue
half_plan = half_with 3 2 ((1 ∷ []) ∷ [])

-- the plan with the segments of its certificate
abbrev pub half_valid : ValidValue
half_valid = record {
  plan = half_plan;
  segments = record { cell = 2; leaves = 0 ∷ 1 ∷ []; duals = 1 ∷ 2 ∷ [] } ∷ record { cell = 3; leaves = 0 ∷ 1 ∷ []; duals = 1 ∷ 2 ∷ [] } ∷ [];
}
