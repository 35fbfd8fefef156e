use Rattle.bb_runs.proofs.Ranks.{no_ranked_cycle}
use Rattle.bb_runs.proofs.NamedRuns.{site_order, site_ranks}
use Rattle.bb_runs.proofs.site.site_ranks_give_orders.Goals as goal

pub returns-clause-exactly : goal.returns-clause-exactly
returns-clause-exactly c = λ n is. (site_order n is, site_ranks n is)

pub returns-clause-no_cycle : goal.returns-clause-no_cycle
returns-clause-no_cycle c = λ gates nets ranks cycle. no_ranked_cycle gates ranks nets cycle
