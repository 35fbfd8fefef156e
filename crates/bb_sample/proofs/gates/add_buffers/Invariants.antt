use Rattle.std.proofs.Common.{◌≡◌, map}
use Rattle.std.specs.List.{range_with_len}
use Rattle.bb_base.specs.Building.{with_gates}
use Rattle.bb_sample.specs.Sample.{buffer_at}
use Rattle.bb_sample.proofs.gates.add_buffers.Given as goal

abbrev pub invariant-outputs : goal.invariant-outputs
invariant-outputs l = l.builder ≡ with_gates l.fn.builder (map (buffer_at l.number) (range_with_len 0 l.j))
