use Rattle.bb_code.proofs.Existing.{columns_exist, columns_or_stuck}
use Rattle.bb_code.proofs.laws.columns_exist.Goals as goal

pub returns-clause-or_stuck : goal.returns-clause-or_stuck
returns-clause-or_stuck c = λ degree sources segments. columns_or_stuck degree segments sources

pub returns-clause-within : goal.returns-clause-within
returns-clause-within c = columns_exist
