use Rattle.std.proofs.Common.{refl}
use Rattle.std.specs.Fmt.{digits}
use Rattle.bb_statements.proofs.laws.statements_are.Goals as goal

pub returns-clause-half : goal.returns-clause-half
unfolding digits
returns-clause-half c = record { gates_are = refl; flops_are = refl; variables_are = refl }

pub returns-clause-toggle : goal.returns-clause-toggle
unfolding digits
returns-clause-toggle c = record { gates_are = refl; flops_are = refl; variables_are = refl }

pub returns-clause-empty : goal.returns-clause-empty
unfolding digits
returns-clause-empty c = record { gates_are = refl; flops_are = refl; variables_are = refl }

pub returns-clause-idle : goal.returns-clause-idle
unfolding digits
returns-clause-idle c = record { gates_are = refl; flops_are = refl; variables_are = refl }

pub returns-clause-steady : goal.returns-clause-steady
unfolding digits
returns-clause-steady c = record { gates_are = refl; flops_are = refl; variables_are = refl }

pub returns-clause-pair : goal.returns-clause-pair
unfolding digits
returns-clause-pair c = record { gates_are = refl; flops_are = refl; variables_are = refl }
