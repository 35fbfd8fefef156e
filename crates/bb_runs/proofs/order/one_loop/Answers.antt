use Rattle.bb_runs.proofs.Loops.{one_loop_of, driven_once}
use Rattle.bb_runs.proofs.order.one_loop.Goals as goal

pub returns : goal.returns
returns c = λ n nets other is l k. one_loop_of n nets other (driven_once n is) l k
