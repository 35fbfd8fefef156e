-- Rules in their order: one more that is met, or the first that isn't.
use Rattle.std.proofs.Common.{◌≡◌, ℕ, ◌+◌, ◌≤◌, List, [], ◌∷◌, Bool, true, false, refl, sym, ap, subst, ◌∙◌, arith, nat_le, append-nil, slice_index_or}
use Rattle.std.proofs.lemmas.Bool.Decides.{nat_tests}
use Rattle.bb_base.specs.Net.{Netlist}
use Rattle.bb_terms.specs.declared.plan.Cell.{Cell}
use Rattle.bb_terms.specs.Plan.{PlanValue, chain}
use Rattle.bb_terms.specs.Rules.{Rule, Frame, Registers, Kinds, Apart, Served, Pure, Sessions, Compacted, Room, Columns, Widths, Conflicts, Codes, Period, rule_number, Holds, FailsAt}
use Rattle.bb_terms.specs.Valid.{IsRuleFault}
use Rattle.bb_plan.specs.Answers.{MeetsTo}

-- a rule by its number
rule_at : ℕ → Rule
rule_at n =
    slice_index_or (Frame ∷ Frame ∷ Registers ∷ Kinds ∷ Apart ∷ Served ∷ Pure ∷ Sessions ∷ Compacted ∷ Room ∷ Columns ∷ Widths ∷ Conflicts ∷ Codes ∷ Period ∷ []) n Frame

rule_back : (rule : Rule) → rule_at (rule_number rule) ≡ rule
unfolding rule_at
rule_back Frame = refl
rule_back Registers = refl
rule_back Kinds = refl
rule_back Apart = refl
rule_back Served = refl
rule_back Pure = refl
rule_back Sessions = refl
rule_back Compacted = refl
rule_back Room = refl
rule_back Columns = refl
rule_back Widths = refl
rule_back Conflicts = refl
rule_back Codes = refl
rule_back Period = refl

one_rule : (a b : Rule) → rule_number a ≡ rule_number b → a ≡ b
one_rule a b e = sym (rule_back a) ∙ ap rule_at e ∙ rule_back b

some_number : (rule : Rule) → 1 ≤ rule_number rule
some_number Frame = omega arith
some_number Registers = omega arith
some_number Kinds = omega arith
some_number Apart = omega arith
some_number Served = omega arith
some_number Pure = omega arith
some_number Sessions = omega arith
some_number Compacted = omega arith
some_number Room = omega arith
some_number Columns = omega arith
some_number Widths = omega arith
some_number Conflicts = omega arith
some_number Codes = omega arith
some_number Period = omega arith

-- none comes before the first
pub meets_none : (a : Netlist ℕ) (p : PlanValue) → MeetsTo a p 0
meets_none a p rule few = absurd (omega (arith, few, some_number rule))

-- one rule more is met
pub meets_more : (a : Netlist ℕ) (p : PlanValue) (n m : ℕ) (rule : Rule) → rule_number rule ≡ m → m ≡ n + 1 → MeetsTo a p n → Holds a p rule → MeetsTo a p m
meets_more a p n m rule is next before holds other within = by (nat_le (rule_number other) n) refl
  where
    by : (b : Bool) → nat_le (rule_number other) n ≡ b → Holds a p other
    by true e = before other (grind (arith, nat_tests, e))
    by false e =
        let same : rule_number rule ≡ rule_number other = grind (arith, nat_tests, e, within, is, next) in
        subst (Holds a p) (one_rule rule other same) holds

-- or it is the first that isn't
pub first_fault : (a : Netlist ℕ) (p : PlanValue) (n m place : ℕ) (rule : Rule) → rule_number rule ≡ m → m ≡ n + 1 → MeetsTo a p n → FailsAt a p rule place → IsRuleFault a p m place
first_fault a p n m place rule is next before fails = record {
  rule = rule;
  number_is = sym is;
  before = λ earlier less. before earlier (omega (arith, less, next));
  fails = fails;
}

-- a plan with these cells
plan_of : List Cell → PlanValue
plan_of cells = record { width = 0; degree = 0; mask = 0; registers = record { mask = 0; cells = cells } ∷ []; sessions = [] }

pub some_plan : (cells : List Cell) → (p : PlanValue) × (chain p ≡ cells)
unfolding plan_of
some_plan cells = (plan_of cells, append-nil cells)
