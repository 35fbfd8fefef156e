use Rattle.bb_rules.proofs.ToggleLemmas.{toggle_valid_for, toggle_signed}
use Rattle.bb_statements.proofs.plans.toggle_is.Goals as goal

pub returns-clause-valid : goal.returns-clause-valid
returns-clause-valid c = toggle_valid_for

pub returns-clause-signed : goal.returns-clause-signed
returns-clause-signed c = toggle_signed
