use Rattle.std.proofs.Common.{◌≡◌, ◌++◌, drop}
use Rattle.bb_scope.specs.Making.{each_alone}
use Rattle.bb_gates.specs.Targets.{outs_in, outs_after}
use Rattle.bb_gates.proofs.bitwise.each_alone.Given as goal

abbrev pub invariant-loop-index : goal.invariant-loop-index
invariant-loop-index l = record {
  nets : l.nets.items ++ (each_alone l.op (drop l.index l.xs) (outs_after l.index (outs_in l.outs)) l.work).0 ≡ (each_alone l.op l.xs (outs_in l.outs) l.fn.work).0;
  work : (each_alone l.op (drop l.index l.xs) (outs_after l.index (outs_in l.outs)) l.work).1 ≡ (each_alone l.op l.xs (outs_in l.outs) l.fn.work).1;
}
