use Rattle.bb_grammar.proofs.Exact.{no_end}
use Rattle.bb_grammar.proofs.laws.cut_short.Goals as goal

pub returns : goal.returns
returns c = no_end
