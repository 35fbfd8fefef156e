use Rattle.bb_runs.proofs.NamedRuns.{text_run}
use Rattle.bb_runs.proofs.site.design_runs_exist.Goals as goal

pub returns : goal.returns
returns c = λ n gives s is named has long each. text_run n named has gives s is long each
