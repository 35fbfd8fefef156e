use Rattle.bb_segment.proofs.SupportLemmas.{one_support}
use Rattle.bb_segment.proofs.laws.one_support.Goals as goal

pub returns : goal.returns
returns c = one_support
