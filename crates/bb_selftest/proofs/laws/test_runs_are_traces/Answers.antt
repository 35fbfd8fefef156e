use Rattle.bb_selftest.proofs.Traces.{traced}
use Rattle.bb_selftest.proofs.laws.test_runs_are_traces.Goals as goal

pub returns : goal.returns
returns c = traced
