use Rattle.bb_audit.proofs.OneAudit.{one_fault, passing_has_none}
use Rattle.bb_audit.proofs.laws.one_audit.Goals as goal

pub returns-clause-one : goal.returns-clause-one
returns-clause-one c = one_fault

pub returns-clause-none : goal.returns-clause-none
returns-clause-none c = passing_has_none
