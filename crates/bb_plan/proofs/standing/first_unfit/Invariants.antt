use Rattle.bb_terms.specs.Rules.{Fits}
use Rattle.bb_plan.proofs.FirstWrong.{HoldsBefore}
use Rattle.bb_plan.proofs.standing.first_unfit.Given as goal

abbrev pub invariant-cells : goal.invariant-cells
invariant-cells l = HoldsBefore l.cells (λ i c. Fits l.netlist c) l.place
