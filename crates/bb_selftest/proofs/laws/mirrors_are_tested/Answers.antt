use Rattle.bb_selftest.proofs.Promise.{tested}
use Rattle.bb_selftest.proofs.laws.mirrors_are_tested.Goals as goal

pub returns : goal.returns
returns c = tested
