use Rattle.std.proofs.Common.{◌≡◌, ◌++◌, ◌-◌}
use Rattle.std.specs.List.{range_with_len}
use Rattle.bb_scope.proofs.scope.Bits.nets.Given as goal

abbrev pub invariant-loop-net : goal.invariant-loop-net
invariant-loop-net l = l.nets.items ++ range_with_len l.net (l.fn.self.end - l.net) ≡ range_with_len l.fn.self.first (l.fn.self.end - l.fn.self.first)
