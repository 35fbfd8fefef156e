use Rattle.bb_testrun.proofs.OutLaws.{comes_out}
use Rattle.bb_testrun.proofs.laws.chains_come_out.Goals as goal

pub returns : goal.returns
returns c = comes_out
