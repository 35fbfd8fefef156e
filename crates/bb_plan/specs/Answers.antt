-- What a test of a rule answers, and what a test of several rules in their order does.
use Rattle.std.specs.Prelude.{ℕ, ◌≤◌, Option, None, Some}
use Rattle.bb_base.specs.Net.{Netlist}
use Rattle.bb_terms.specs.Plan.{PlanValue}
use Rattle.bb_terms.specs.Rules.{Rule, rule_number, Holds, FailsAt}
use Rattle.bb_terms.specs.Valid.{IsRuleFault}
use Rattle.bb_plan.specs.declared.first.Misfit.{Misfit}

-- none where the plan meets the rule, else the place at which it fails first
abbrev pub IsVerdict : Netlist ℕ → PlanValue → Rule → Option ℕ → Type 0
IsVerdict a p rule None = Holds a p rule
IsVerdict a p rule (Some place) = FailsAt a p rule place

-- the plan meets the rules up to this number
abbrev pub MeetsTo : Netlist ℕ → PlanValue → ℕ → Type 0
MeetsTo a p number = (rule : Rule) → rule_number rule ≤ number → Holds a p rule

-- none where the plan meets the rules up to this number, else the first of them that fails
abbrev pub IsMisfitTo : Netlist ℕ → PlanValue → ℕ → Option Misfit → Type 0
IsMisfitTo a p number None = MeetsTo a p number
IsMisfitTo a p number (Some misfit) = (misfit.number ≤ number) × IsRuleFault a p misfit.number misfit.place
