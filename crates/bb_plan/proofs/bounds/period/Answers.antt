use Rattle.std.proofs.Common.{subst}
use Rattle.bb_terms.specs.Register.{IsFullPeriod}
use Rattle.bb_terms.specs.Plan.{PlanValue}
use Rattle.bb_plan.proofs.bounds.period.Goals as goal

pub returns-in-Ok : goal.returns-in-Ok
returns-in-Ok c = λ a. subst (λ (p : PlanValue). IsFullPeriod p.degree p.mask) c.plan.view_is c.in-Ok.ensures.full
