use Rattle.std.proofs.Common.{◌≡◌, take}
use Rattle.bb_scope.specs.Making.{as_value}
use Rattle.bb_gates.proofs.bitwise.as_value.Given as goal

abbrev pub invariant-loop-net : goal.invariant-loop-net
invariant-loop-net l = l.value.items ≡ as_value (take l.net-index l.nets)
