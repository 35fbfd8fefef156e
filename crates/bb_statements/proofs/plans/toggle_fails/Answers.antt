use Rattle.bb_statements.proofs.ToggleFaults.{reads_itself, watched_alone, observed_twice}
use Rattle.bb_statements.proofs.plans.toggle_fails.Goals as goal

pub returns-clause-itself : goal.returns-clause-itself
returns-clause-itself c = reads_itself

pub returns-clause-alone : goal.returns-clause-alone
returns-clause-alone c = watched_alone

pub returns-clause-twice : goal.returns-clause-twice
returns-clause-twice c = observed_twice
