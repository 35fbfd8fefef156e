use Rattle.bb_choose.proofs.ArrangementLemmas.{one_arrangement}
use Rattle.bb_choose.proofs.completeness.one_arrangement.Goals as goal

pub returns : goal.returns
returns c = one_arrangement
