use Rattle.bb_elab.proofs.LoopLaws.{one-outcome}
use Rattle.bb_elab.proofs.laws.one_outcome.Goals as goal

pub returns : goal.returns
returns c = one-outcome
