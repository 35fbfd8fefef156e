use Rattle.std.proofs.Common.{refl}
use Rattle.bb_sample.specs.Draws.{generator_after}
use Rattle.bb_sample.proofs.laws.draws_are_known.Goals as goal

pub returns : goal.returns
unfolding generator_after
returns c = record { first = refl; second = refl; third = refl; operator = refl; first_input = refl; second_input = refl }
