use Rattle.std.proofs.Common.{arith}
use Rattle.std.proofs.lemmas.Grind.{common_steps}
use Rattle.bb_netlist.proofs.LevelLemmas.{noted_at}
use Rattle.bb_netlist.proofs.levels.note_reads.Goals as goal

pub loop-net-preserved : goal.loop-net-preserved
loop-net-preserved c = record {
  long = grind (arith, common_steps);
  each = λ n h k. grind (arith, common_steps, c.loop-net.invariant.each n h k, noted_at c.loop-net.readers c.net.inside.0 n h c.args.number);
}
