use Rattle.bb_rules.proofs.CellLemmas.{cell_at, column_is}
use Rattle.bb_rules.proofs.SourceLemmas.{in_register, one_register, source_is}
use Rattle.bb_rules.proofs.laws.cells_stand.Goals as goal

pub returns-clause-at : goal.returns-clause-at
returns-clause-at c = cell_at

pub returns-clause-register : goal.returns-clause-register
returns-clause-register c = in_register

pub returns-clause-one_register : goal.returns-clause-one_register
returns-clause-one_register c = one_register

pub returns-clause-source : goal.returns-clause-source
returns-clause-source c = source_is

pub returns-clause-column : goal.returns-clause-column
returns-clause-column c = column_is
