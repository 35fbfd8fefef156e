use Rattle.std.proofs.Common.{◌≡◌, ◌+◌, ◌*◌, map}
use Rattle.std.specs.List.{range_with_len}
use Rattle.bb_base.specs.Building.{with_flops}
use Rattle.bb_sample.specs.Draws.{generator_after}
use Rattle.bb_sample.specs.Sample.{flop_at}
use Rattle.bb_sample.proofs.gates.add_flops.Given as goal

abbrev pub invariant-flops : goal.invariant-flops
invariant-flops l = record {
  builder : l.builder ≡ with_flops l.fn.builder (map (flop_at l.number) (range_with_len 0 l.i));
  state : l.draws ≡ generator_after l.number (3 * l.number + l.i);
}
