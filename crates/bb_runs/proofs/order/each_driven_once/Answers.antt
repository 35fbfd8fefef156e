use Rattle.bb_base.specs.Net.{driven}
use Rattle.bb_runs.proofs.Counting.{once_each}
use Rattle.bb_runs.proofs.order.each_driven_once.Goals as goal

pub returns : goal.returns
returns c = λ n nets some few net small. once_each nets (driven n) some few net small
