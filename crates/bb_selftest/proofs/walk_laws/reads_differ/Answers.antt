use Rattle.bb_selftest.proofs.Standing.{one_read}
use Rattle.bb_selftest.proofs.walk_laws.reads_differ.Goals as goal

pub returns : goal.returns
returns c = one_read
