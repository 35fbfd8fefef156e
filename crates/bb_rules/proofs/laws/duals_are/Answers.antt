use Rattle.bb_rules.proofs.CodeLemmas.{segment_duals, segment_duals_below}
use Rattle.bb_rules.proofs.laws.duals_are.Goals as goal

pub returns-clause-duals : goal.returns-clause-duals
returns-clause-duals c = segment_duals

pub returns-clause-below : goal.returns-clause-below
returns-clause-below c = λ a p observer segment columns h. segment_duals_below a p columns observer segment h
