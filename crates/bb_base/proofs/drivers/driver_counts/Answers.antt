use Rattle.std.proofs.Common.{arith}
use Rattle.std.proofs.lemmas.Grind.{common_steps}
use Rattle.bb_base.proofs.drivers.driver_counts.Goals as goal

pub loop-net-preserved : goal.loop-net-preserved
loop-net-preserved c = record {
  long = grind (arith, common_steps);
  each = λ m h. grind (arith, common_steps, c.loop-net.invariant.each m h);
}
