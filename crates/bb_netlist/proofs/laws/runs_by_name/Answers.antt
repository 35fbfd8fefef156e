use Rattle.bb_base.proofs.Renamed.{run_back, run_forth, run_back_by, run_forth_by}
use Rattle.bb_netlist.proofs.laws.runs_by_name.Goals as goal

pub returns-clause-plain : goal.returns-clause-plain
returns-clause-plain c = λ f n s is vs. (run_back f n s is vs, run_forth f n s is vs)

pub returns-clause-any : goal.returns-clause-any
returns-clause-any c = λ f gives n s is vs. (run_back_by f gives n s is vs, run_forth_by f gives n s is vs)
