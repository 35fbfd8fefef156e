use Rattle.bb_audit.specs.Certified.{HaveDuals}
use Rattle.bb_plan.proofs.FirstWrong.{HoldsBefore}
use Rattle.bb_audit.proofs.duals.first_without.Given as goal

abbrev pub invariant-lines : goal.invariant-lines
invariant-lines l = HoldsBefore l.lines (λ i line. HaveDuals l.plan line.pairs) l.line-index
