use Rattle.bb_scope.proofs.Counting.{module-fresh}
use Rattle.bb_meaning.proofs.laws.counted_nets_are_made.Goals as goal

pub returns : goal.returns
returns c = λ m h. module-fresh m h
