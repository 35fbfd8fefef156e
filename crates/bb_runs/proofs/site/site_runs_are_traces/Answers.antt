use Rattle.bb_runs.proofs.Traces.{trace_of, run_of, run_of_trace}
use Rattle.bb_runs.proofs.site.site_runs_are_traces.Goals as goal

pub returns-clause-trace : goal.returns-clause-trace
returns-clause-trace c = λ gives n s is vs run. trace_of gives n s is vs run

pub returns-clause-run : goal.returns-clause-run
returns-clause-run c = λ gives n vs trace. run_of gives n vs trace

pub returns-clause-by_cycle : goal.returns-clause-by_cycle
returns-clause-by_cycle c = λ gives n v cycles trace. run_of_trace gives n v cycles trace
