use Rattle.bb_audit.proofs.JudgeLemmas.{passing_is_good}
use Rattle.bb_audit.proofs.laws.passing_is_good.Goals as goal

pub returns : goal.returns
returns c = passing_is_good
