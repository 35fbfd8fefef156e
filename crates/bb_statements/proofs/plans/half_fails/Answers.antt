use Rattle.bb_statements.proofs.HalfFaults.{wide_mask, listed_twice, not_listed, wide_column, same_columns, short_walk}
use Rattle.bb_statements.proofs.plans.half_fails.Goals as goal

pub returns-clause-mask : goal.returns-clause-mask
returns-clause-mask c = wide_mask

pub returns-clause-twice : goal.returns-clause-twice
returns-clause-twice c = listed_twice

pub returns-clause-never : goal.returns-clause-never
returns-clause-never c = not_listed

pub returns-clause-column : goal.returns-clause-column
returns-clause-column c = wide_column

pub returns-clause-codes : goal.returns-clause-codes
returns-clause-codes c = same_columns

pub returns-clause-walk : goal.returns-clause-walk
returns-clause-walk c = short_walk
