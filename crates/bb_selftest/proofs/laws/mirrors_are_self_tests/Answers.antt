use Rattle.bb_selftest.proofs.Promise.{self_test}
use Rattle.bb_selftest.proofs.laws.mirrors_are_self_tests.Goals as goal

pub returns : goal.returns
returns c = self_test
