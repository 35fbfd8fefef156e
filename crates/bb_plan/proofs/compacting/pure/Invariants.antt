use Rattle.bb_terms.specs.Rules.{IsPure}
use Rattle.bb_plan.proofs.FirstWrong.{HoldsBefore}
use Rattle.bb_plan.proofs.compacting.pure.Given as goal

abbrev pub invariant-registers : goal.invariant-registers
invariant-registers l = HoldsBefore l.plan.registers (λ r g. IsPure g) l.place
