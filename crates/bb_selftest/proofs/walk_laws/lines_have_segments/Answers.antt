use Rattle.bb_selftest.proofs.AtSites.{has_segment}
use Rattle.bb_selftest.proofs.walk_laws.lines_have_segments.Goals as goal

pub returns : goal.returns
returns c = λ a b p i cell start named own valid m at begins. has_segment a b p named own valid m i cell start at begins
