use Rattle.bb_grammar.proofs.Exact.{run_both, run_failed}
use Rattle.bb_grammar.proofs.laws.in_parts.Goals as goal

pub returns-clause-parts : goal.returns-clause-parts
returns-clause-parts c = run_both

pub returns-clause-fault : goal.returns-clause-fault
returns-clause-fault c = run_failed
