use Rattle.bb_runs.proofs.Orders.{one_order_of}
use Rattle.bb_runs.proofs.order.one_order.Goals as goal

pub returns : goal.returns
returns c = one_order_of
