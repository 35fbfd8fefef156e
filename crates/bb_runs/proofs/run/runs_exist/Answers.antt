use Rattle.bb_runs.proofs.Valuations.{run_from, runs_agree}
use Rattle.bb_runs.proofs.run.runs_exist.Goals as goal

pub returns-clause-some : goal.returns-clause-some
returns-clause-some c = λ gives n s is fits has long each. run_from gives n has.0 fits has.1 s is long each

pub returns-clause-one : goal.returns-clause-one
returns-clause-one c = λ gives n s is vs ws fits has a b cycle net small. runs_agree gives n has.0 fits has.1 s is vs ws a b cycle net small
