use Rattle.bb_rules.proofs.RuleLemmas.{one_fault, valid_has_none, never_both, one_failure}
use Rattle.bb_rules.proofs.laws.one_fault.Goals as goal

pub returns-clause-one : goal.returns-clause-one
returns-clause-one c = one_fault

pub returns-clause-none : goal.returns-clause-none
returns-clause-none c = valid_has_none

pub returns-clause-never_both : goal.returns-clause-never_both
returns-clause-never_both c = never_both

pub returns-clause-place : goal.returns-clause-place
returns-clause-place c = one_failure
