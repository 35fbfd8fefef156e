use Rattle.bb_eqn.proofs.TransposeLemmas.{round_8, round_4, round_2, round_1, four_rounds}
use Rattle.bb_eqn.proofs.exchange.transpose.Goals as goal

pub exchange-requires : goal.exchange-requires
exchange-requires c = round_8

pub exchange-requires-2 : goal.exchange-requires-2
exchange-requires-2 c = round_4

pub exchange-requires-3 : goal.exchange-requires-3
exchange-requires-3 c = round_2

pub exchange-requires-4 : goal.exchange-requires-4
exchange-requires-4 c = round_1

pub returns : goal.returns
returns c = four_rounds c.args.block.now c.exchange.new.block c.exchange-2.new.block c.exchange-3.new.block c.exchange-4.new.block c.exchange.ensures c.exchange-2.ensures c.exchange-3.ensures c.exchange-4.ensures
