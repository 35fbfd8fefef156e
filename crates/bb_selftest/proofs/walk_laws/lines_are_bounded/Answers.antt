use Rattle.bb_selftest.proofs.AtSites.{bounded}
use Rattle.bb_selftest.proofs.walk_laws.lines_are_bounded.Goals as goal

pub returns : goal.returns
returns c = λ a b p i r cell named own valid m. bounded a b p named own valid m i r cell
