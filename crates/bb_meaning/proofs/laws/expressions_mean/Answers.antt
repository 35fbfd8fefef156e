use Rattle.bb_meaning.proofs.StatementBits.{terminal-means}
use Rattle.bb_meaning.proofs.laws.expressions_mean.Goals as goal

pub returns : goal.returns
returns c = terminal-means
