use Rattle.bb_segment.proofs.ValueLemmas.{some_bit}
use Rattle.bb_segment.proofs.laws.some_bit.Goals as goal

pub returns : goal.returns
returns c = λ gives gates order stop start bits ordered one. some_bit gives gates stop bits order ordered start one
