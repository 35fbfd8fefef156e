use Rattle.bb_testrun.proofs.FullLaws.{full_walks_cycle}
use Rattle.bb_testrun.proofs.laws.full_walks_cycle.Goals as goal

pub returns : goal.returns
returns c = full_walks_cycle
