use Rattle.bb_runs.proofs.NamedRuns.{site_run, site_runs_agree}
use Rattle.bb_runs.proofs.site.site_runs_exist.Goals as goal

pub returns-clause-some : goal.returns-clause-some
returns-clause-some c = λ n gives s is named has long each. site_run n named has gives s is long each

pub returns-clause-one : goal.returns-clause-one
returns-clause-one c = λ n gives s is vs ws named has a b cycle net small. site_runs_agree n named has gives s is vs ws a b cycle net small
