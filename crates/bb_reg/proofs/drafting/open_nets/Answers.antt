use Rattle.bb_segment.proofs.WalkLemmas.{item_in}
use Rattle.bb_reg.proofs.drafting.open_nets.Goals as goal

pub is_stop-requires : goal.is_stop-requires
is_stop-requires c = c.requires c.net-item.result (item_in c.args.nets.now c.nets.net-index c.net-item.result c.nets-test.true c.net-item.is)
