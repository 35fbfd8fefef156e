use Rattle.bb_testrun.proofs.MeetLaws.{meets_all}
use Rattle.bb_testrun.proofs.laws.every_vector_meets.Goals as goal

pub returns : goal.returns
returns c = meets_all
