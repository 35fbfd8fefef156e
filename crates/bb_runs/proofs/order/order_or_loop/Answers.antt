use Rattle.bb_base.proofs.CycleLemmas.{no_cycle}
use Rattle.bb_netlist.proofs.WalkLemmas.{loop_cycles}
use Rattle.bb_runs.proofs.Walks.{order_or_loop_of}
use Rattle.bb_runs.proofs.order.order_or_loop.Goals as goal

pub returns-clause-either : goal.returns-clause-either
returns-clause-either c = order_or_loop_of

pub returns-clause-not_both : goal.returns-clause-not_both
returns-clause-not_both c = λ gates nets l has. no_cycle gates has.0 nets has.1 (loop_cycles gates nets l)
