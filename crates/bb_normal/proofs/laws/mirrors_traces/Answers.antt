use Rattle.bb_normal.proofs.Mirroring.{trace_symbols, run_symbols}
use Rattle.bb_normal.proofs.laws.mirrors_traces.Goals as goal

pub returns : goal.returns
returns c = record { trace = trace_symbols; run = run_symbols }
