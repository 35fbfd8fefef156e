use Rattle.bb_terms.proofs.FunctionLemmas.{one_bit}
use Rattle.bb_segment.proofs.laws.one_bit.Goals as goal

pub returns : goal.returns
returns c = one_bit
