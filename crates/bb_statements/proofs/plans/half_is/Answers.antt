use Rattle.std.proofs.Common.{refl}
use Rattle.bb_rules.proofs.HalfLemmas.{full, half_valid_for, half_signed}
use Rattle.bb_statements.proofs.plans.half_is.Goals as goal

pub returns-clause-observers : goal.returns-clause-observers
returns-clause-observers c = refl

pub returns-clause-full : goal.returns-clause-full
returns-clause-full c = full

pub returns-clause-valid : goal.returns-clause-valid
returns-clause-valid c = half_valid_for

pub returns-clause-signed : goal.returns-clause-signed
returns-clause-signed c = half_signed
