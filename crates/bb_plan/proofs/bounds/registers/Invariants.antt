use Rattle.bb_terms.specs.Rules.{IsRegister}
use Rattle.bb_plan.proofs.FirstWrong.{HoldsBefore}
use Rattle.bb_plan.proofs.bounds.registers.Given as goal

abbrev pub invariant-registers : goal.invariant-registers
invariant-registers l = HoldsBefore l.plan.registers (λ r g. IsRegister g) l.place
