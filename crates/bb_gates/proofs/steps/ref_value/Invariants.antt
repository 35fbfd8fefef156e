use Rattle.std.proofs.Common.{◌≡◌, ◌++◌, ◌-◌}
use Rattle.std.specs.List.{range_with_len}
use Rattle.bb_scope.specs.Making.{as_value}
use Rattle.bb_gates.proofs.steps.ref_value.Given as goal

abbrev pub invariant-loop-net : goal.invariant-loop-net
invariant-loop-net l = l.bits.items ++ as_value (range_with_len l.net (l.fn.named.end - l.net)) ≡ as_value (range_with_len l.fn.named.first (l.fn.named.end - l.fn.named.first))
