use Rattle.bb_code.proofs.OneChoice.{columns_unique, none_past_stuck, columns_higher, columns_lower, columns_below, column_alone}
use Rattle.bb_code.proofs.laws.columns_are_unique.Goals as goal

pub returns-clause-unique : goal.returns-clause-unique
returns-clause-unique c = columns_unique

pub returns-clause-stuck : goal.returns-clause-stuck
returns-clause-stuck c = none_past_stuck

pub returns-clause-higher : goal.returns-clause-higher
returns-clause-higher c = columns_higher

pub returns-clause-lower : goal.returns-clause-lower
returns-clause-lower c = columns_lower

pub returns-clause-below : goal.returns-clause-below
returns-clause-below c = columns_below

pub returns-clause-alone : goal.returns-clause-alone
returns-clause-alone c = column_alone
