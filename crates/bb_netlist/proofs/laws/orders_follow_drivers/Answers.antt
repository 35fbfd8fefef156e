use Rattle.bb_base.proofs.CycleLemmas.{follows, no_cycle}
use Rattle.bb_netlist.proofs.laws.orders_follow_drivers.Goals as goal

pub returns-clause-after : goal.returns-clause-after
returns-clause-after c = follows

pub returns-clause-no_cycle : goal.returns-clause-no_cycle
returns-clause-no_cycle c = no_cycle
