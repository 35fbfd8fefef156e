use Rattle.bb_lex.proofs.Feeding.{run-append, run_shift, close_shift}
use Rattle.bb_lex.proofs.laws.any_cutting.Goals as goal

pub returns-clause-pieces : goal.returns-clause-pieces
returns-clause-pieces c = run-append

pub returns-clause-taken : goal.returns-clause-taken
returns-clause-taken c = run_shift

pub returns-clause-taken_at_end : goal.returns-clause-taken_at_end
returns-clause-taken_at_end c = close_shift
