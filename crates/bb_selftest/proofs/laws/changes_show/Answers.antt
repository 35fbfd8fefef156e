use Rattle.bb_selftest.proofs.Exhausting.{shows}
use Rattle.bb_selftest.proofs.laws.changes_show.Goals as goal

pub returns : goal.returns
returns c = λ a b p f i r cell w change. shows a b p f w change i r cell
