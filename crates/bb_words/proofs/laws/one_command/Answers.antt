use Rattle.bb_words.proofs.Commands.{one_meaning}
use Rattle.bb_words.proofs.laws.one_command.Goals as goal

pub returns : goal.returns
returns c = one_meaning
