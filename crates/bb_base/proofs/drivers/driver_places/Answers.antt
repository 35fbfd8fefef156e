use Rattle.std.proofs.Common.{arith}
use Rattle.std.proofs.lemmas.Grind.{common_steps}
use Rattle.std.proofs.lemmas.Option.{gets}
use Rattle.bb_base.proofs.drivers.driver_places.Goals as goal

pub loop-place-preserved : goal.loop-place-preserved
loop-place-preserved c = record {
  long = grind (arith, common_steps);
  each = λ m h k. grind (arith, common_steps, gets, c.loop-place.invariant.each m h);
}
