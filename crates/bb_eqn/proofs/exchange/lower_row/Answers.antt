use Rattle.bb_eqn.proofs.TransposeLemmas.{lower_bit}
use Rattle.bb_eqn.proofs.exchange.lower_row.Goals as goal

pub returns : goal.returns
returns c = λ t h. lower_bit c.args.step c.args.mask c.args.word c.args.other t c.requires h
