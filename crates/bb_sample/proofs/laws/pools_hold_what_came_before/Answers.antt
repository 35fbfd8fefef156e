use Rattle.bb_sample.proofs.PoolLemmas.{pool_in_order}
use Rattle.bb_sample.proofs.laws.pools_hold_what_came_before.Goals as goal

pub returns : goal.returns
returns c = pool_in_order
