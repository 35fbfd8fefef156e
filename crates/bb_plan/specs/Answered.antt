-- What `validate` answers of the first rule that fails.
use Rattle.std.specs.Prelude.{◌≡◌, ℕ, ◌-◌, ◌^◌, min}
use Rattle.bb_base.specs.Net.{Netlist}
use Rattle.bb_terms.specs.Plan.{PlanValue}
use Rattle.bb_terms.specs.Valid.{IsRuleFault}

-- the rule of this number is the first that fails, and this is the first place at which it does, or 2^32 - 1 where that is less
pub record IsAnsweredFault (a : Netlist ℕ) (p : PlanValue) (number place : ℕ) : Type 0 where
  pub exact : ℕ
  pub fault : IsRuleFault a p number exact
  pub capped : place ≡ min (2 ^ 32 - 1) exact
