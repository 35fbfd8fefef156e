use Rattle.bb_eqn.proofs.TransposeLemmas.{lines_there}
use Rattle.bb_eqn.proofs.exchange.lines_at.Goals as goal

pub returns : goal.returns
returns c = λ words long transposed. lines_there words c.args.block.now c.args.place c.requires.place long transposed
