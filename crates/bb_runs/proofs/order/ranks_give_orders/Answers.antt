use Rattle.bb_runs.proofs.Ranks.{ranks_order, ranks_of_order, no_ranked_cycle}
use Rattle.bb_runs.proofs.order.ranks_give_orders.Goals as goal

pub returns-clause-exactly : goal.returns-clause-exactly
returns-clause-exactly c = λ n is. (ranks_order n is, ranks_of_order n.gates)

pub returns-clause-ranks : goal.returns-clause-ranks
returns-clause-ranks c = ranks_of_order

pub returns-clause-no_cycle : goal.returns-clause-no_cycle
returns-clause-no_cycle c = λ gates nets ranks cycle. no_ranked_cycle gates ranks nets cycle
