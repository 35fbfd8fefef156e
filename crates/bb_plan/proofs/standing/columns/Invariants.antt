use Rattle.bb_terms.specs.Rules.{IsColumn}
use Rattle.bb_plan.proofs.FirstWrong.{HoldsBefore}
use Rattle.bb_plan.proofs.standing.columns.Given as goal

abbrev pub invariant-cells : goal.invariant-cells
invariant-cells l = HoldsBefore l.cells (λ i c. IsColumn l.plan c) l.place
