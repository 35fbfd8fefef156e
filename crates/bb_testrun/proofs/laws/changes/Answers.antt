use Rattle.bb_testrun.proofs.TracedRuns.{traced}
use Rattle.bb_testrun.proofs.laws.changes.Goals as goal

pub returns : goal.returns
returns c = traced
