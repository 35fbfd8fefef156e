use Rattle.bb_segment.proofs.CutLemmas.{one_choice}
use Rattle.bb_segment.proofs.laws.one_choice.Goals as goal

pub returns : goal.returns
returns c = one_choice
