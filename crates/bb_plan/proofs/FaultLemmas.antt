-- The first rule that fails, as it is answered.
use Rattle.std.proofs.Common.{arith, ◌≡◌, ℕ, ◌<◌, ◌≤◌, ◌^◌, List, refl, sym, ap, subst, Err}
use Rattle.std.specs.Result.{IsErrOf}
use Rattle.std.proofs.lemmas.Option.{slice_get_within}
use Rattle.bb_base.specs.Net.{Netlist}
use Rattle.bb_base.specs.Order.{IsOrder}
use Rattle.bb_terms.specs.Plan.{PlanValue, chain}
use Rattle.bb_terms.specs.Rules.{Rule, Frame, Registers, Kinds, Apart, Served, Pure, Sessions, Compacted, Room, Columns, Widths, Conflicts, Codes, Period, rule_number, FailsAt}
use Rattle.bb_terms.specs.Valid.{IsRuleFault, IsValidPlan}
use Rattle.bb_plan.specs.Answers.{MeetsTo}
use Rattle.bb_plan.proofs.Stages.{first_fault}
use Rattle.bb_plan.specs.Answered.{IsAnsweredFault}
use Rattle.bb_plan.proofs.ConflictLemmas.{few_sessions}
use Rattle.bb_plan.proofs.LayoutLemmas.{few_cells}

-- a place that fits is answered as it is
answered : (a : Netlist ℕ) (p : PlanValue) (number place : ℕ) → place < 2 ^ 32 → IsRuleFault a p number place → IsAnsweredFault a p number place
answered a p number place low fault = record { exact = place; fault = fault; capped = omega (arith, low) }

module _ (a : Netlist ℕ) (p : PlanValue) (before : MeetsTo a p 10) where
  pub too_wide : (number place : ℕ) → number ≡ 11 → FailsAt a p Widths place → IsAnsweredFault a p number place
  too_wide number place is h =
      let less = slice_get_within (chain p) place h.item h.stands in
      let few = few_cells a p before in
      subst (λ n. IsAnsweredFault a p n place) (sym is) (answered a p 11 place (omega (arith, less, few)) (first_fault a p 10 11 place Widths refl refl before h))

  pub conflicting : (number place : ℕ) → number ≡ 12 → MeetsTo a p 11 → FailsAt a p Conflicts place → IsAnsweredFault a p number place
  conflicting number place is meets h =
      let less = slice_get_within p.sessions place h.item h.stands in
      let few = few_sessions a p before in
      subst (λ n. IsAnsweredFault a p n place) (sym is) (answered a p 12 place (omega (arith, less, few)) (first_fault a p 11 12 place Conflicts refl refl meets h))

  pub uncoded : (number place : ℕ) → number ≡ 13 → MeetsTo a p 12 → FailsAt a p Codes place → IsAnsweredFault a p number place
  uncoded number place is meets h =
      let less = slice_get_within (chain p) place h.item h.stands in
      let few = few_cells a p before in
      subst (λ n. IsAnsweredFault a p n place) (sym is) (answered a p 13 place (omega (arith, less, few)) (first_fault a p 12 13 place Codes refl refl meets h))

all_rules : (rule : Rule) → rule_number rule ≤ 14
all_rules Frame = omega arith
all_rules Registers = omega arith
all_rules Kinds = omega arith
all_rules Apart = omega arith
all_rules Served = omega arith
all_rules Pure = omega arith
all_rules Sessions = omega arith
all_rules Compacted = omega arith
all_rules Room = omega arith
all_rules Columns = omega arith
all_rules Widths = omega arith
all_rules Conflicts = omega arith
all_rules Codes = omega arith
all_rules Period = omega arith

-- a plan that meets the rules up to the last is valid
pub valid_plan : (a : Netlist ℕ) (p : PlanValue) (order : List ℕ) → IsOrder a.gates order → MeetsTo a p 14 → IsValidPlan a p
valid_plan a p order ordered meets = record { order = (order, ordered); meets = λ rule. meets rule (all_rules rule) }

-- an error is the same whatever the other outcome would hold
pub same_fault : {T U E : Type 0} (fault e : E) → IsErrOf {T = T} (Err fault) e → IsErrOf {T = U} (Err fault) e
same_fault fault e h = let same : fault ≡ e = cc h in ap Err same
