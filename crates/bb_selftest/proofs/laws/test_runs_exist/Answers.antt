use Rattle.bb_selftest.proofs.Existing.{exist}
use Rattle.bb_selftest.proofs.laws.test_runs_exist.Goals as goal

pub returns : goal.returns
returns c = exist
