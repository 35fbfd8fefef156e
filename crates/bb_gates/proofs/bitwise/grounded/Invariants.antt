use Rattle.std.proofs.Common.{◌≡◌, ◌++◌, drop}
use Rattle.bb_scope.specs.Making.{grounded}
use Rattle.bb_gates.proofs.bitwise.grounded.Given as goal

abbrev pub invariant-loop-bit : goal.invariant-loop-bit
invariant-loop-bit l = record {
  nets : l.nets.items ++ (grounded (drop l.bit-index l.bits) l.work).0 ≡ (grounded l.bits l.fn.work).0;
  work : (grounded (drop l.bit-index l.bits) l.work).1 ≡ (grounded l.bits l.fn.work).1;
}
