use Rattle.bb_spell.proofs.Told.{first_bad_is, none_bad_is, one_bad, right_or_bad}
use Rattle.bb_spell.proofs.line_laws.one_bad_line.Goals as goal

pub returns-clause-found : goal.returns-clause-found
returns-clause-found c = first_bad_is

pub returns-clause-none : goal.returns-clause-none
returns-clause-none c = none_bad_is

pub returns-clause-one : goal.returns-clause-one
returns-clause-one c = one_bad

pub returns-clause-either : goal.returns-clause-either
returns-clause-either c = right_or_bad
