use Rattle.bb_meaning.proofs.StatementBits.{statements-hold}
use Rattle.bb_meaning.proofs.laws.statements_hold.Goals as goal

pub returns : goal.returns
returns c = statements-hold
