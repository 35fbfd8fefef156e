use Rattle.bb_elab.proofs.LoopLaws.{has-outcome}
use Rattle.bb_elab.proofs.laws.has_an_outcome.Goals as goal

pub returns : goal.returns
returns c = has-outcome
