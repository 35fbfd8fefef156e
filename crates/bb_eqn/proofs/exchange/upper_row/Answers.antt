use Rattle.bb_eqn.proofs.TransposeLemmas.{upper_bit}
use Rattle.bb_eqn.proofs.exchange.upper_row.Goals as goal

pub returns : goal.returns
returns c = λ t h. upper_bit c.args.step c.args.mask c.args.word c.args.other t c.requires c.ranges.mask.fits h
