use Rattle.bb_lex.proofs.Feeding.{stays, stays_closed}
use Rattle.bb_lex.proofs.laws.a_fault_stands.Goals as goal

pub returns-clause-run : goal.returns-clause-run
returns-clause-run c = stays

pub returns-clause-close : goal.returns-clause-close
returns-clause-close c = stays_closed
