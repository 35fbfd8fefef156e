use Rattle.bb_base.proofs.Renamed.{run_back_by, run_forth_by}
use Rattle.bb_net.proofs.Designs.{run_by_site}
use Rattle.bb_net.proofs.laws.runs_by_site.Goals as goal

pub returns-clause-any : goal.returns-clause-any
returns-clause-any c = λ f gives n s is vs. (run_back_by f gives n s is vs, run_forth_by f gives n s is vs)

pub returns-clause-each : goal.returns-clause-each
returns-clause-each c = λ n gives s is ws named run. run_by_site n named gives s is ws run
