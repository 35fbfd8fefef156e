use Rattle.std.proofs.Common.{◌≡◌, ◌++◌, ◌-◌}
use Rattle.std.specs.List.{range_with_len}
use Rattle.bb_gates.proofs.prims.add_bits.Given as goal

abbrev pub invariant-loop-bit : goal.invariant-loop-bit
invariant-loop-bit l = l.nets.items ++ range_with_len l.bit (l.fn.bits.end - l.bit) ≡ l.fn.nets.items ++ range_with_len l.fn.bits.first (l.fn.bits.end - l.fn.bits.first)
