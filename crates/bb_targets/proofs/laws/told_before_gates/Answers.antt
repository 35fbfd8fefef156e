use Rattle.bb_targets.proofs.Twice.{told}
use Rattle.bb_targets.proofs.laws.told_before_gates.Goals as goal

pub returns : goal.returns
returns c = λ m fault fine. told m fine fault
