use Rattle.std.proofs.Common.{◌≡◌, ◌++◌, ◌-◌}
use Rattle.bb_scope.specs.Making.{const_bits}
use Rattle.bb_gates.proofs.steps.const_bits.Given as goal

abbrev pub invariant-loop-place : goal.invariant-loop-place
invariant-loop-place l = l.bits.items ++ const_bits (l.size - l.place) l.number ≡ const_bits l.size l.number
