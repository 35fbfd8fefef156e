use Rattle.bb_rules.proofs.SegmentLemmas.{some_start}
use Rattle.bb_rules.proofs.CodeLemmas.{one_start}
use Rattle.bb_rules.proofs.laws.lines_start.Goals as goal

pub returns-clause-some : goal.returns-clause-some
returns-clause-some c = some_start

pub returns-clause-one : goal.returns-clause-one
returns-clause-one c = one_start
