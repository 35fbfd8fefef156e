use Rattle.bb_plan.specs.Tables.{IsListedIn}
use Rattle.bb_plan.proofs.FirstWrong.{HoldsBefore}
use Rattle.bb_plan.proofs.compacting.first_unlisted.Given as goal

abbrev pub invariant-registers : goal.invariant-registers
invariant-registers l = HoldsBefore l.registers (IsListedIn l.listed) l.place
