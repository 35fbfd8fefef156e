use Rattle.std.proofs.Common.{◌≡◌, ◌*◌, map}
use Rattle.std.specs.List.{range_with_len}
use Rattle.bb_base.specs.Building.{with_gates}
use Rattle.bb_sample.specs.Draws.{generator_after}
use Rattle.bb_sample.specs.Sample.{gate_at}
use Rattle.bb_sample.proofs.gates.add_gates.Given as goal

abbrev pub invariant-gates : goal.invariant-gates
invariant-gates l = record {
  builder : l.builder ≡ with_gates l.fn.builder (map (gate_at l.number) (range_with_len 0 l.j));
  state : l.draws ≡ generator_after l.number (3 * l.j);
}
