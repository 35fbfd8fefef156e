use Rattle.bb_choose.proofs.ValidPlans.{chosen_valid}
use Rattle.bb_choose.proofs.laws.chosen_plans_are_valid.Goals as goal

pub returns : goal.returns
returns c = chosen_valid
