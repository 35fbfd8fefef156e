use Rattle.bb_segment.proofs.LeafLemmas.{at_stop, behind_gate, at_open}
use Rattle.bb_segment.proofs.laws.leaves_by_steps.Goals as goal

pub returns-clause-stop : goal.returns-clause-stop
returns-clause-stop c = at_stop

pub returns-clause-behind : goal.returns-clause-behind
returns-clause-behind c = behind_gate

pub returns-clause-passed : goal.returns-clause-passed
returns-clause-passed c = at_open
