use Rattle.std.proofs.Common.{◌≡◌, ◌++◌, drop}
use Rattle.bb_scope.specs.Making.{each_choice}
use Rattle.bb_gates.specs.Targets.{outs_in, outs_after}
use Rattle.bb_gates.proofs.bitwise.each_choice.Given as goal

abbrev pub invariant-loop-index : goal.invariant-loop-index
invariant-loop-index l = record {
  nets : l.nets.items ++ (each_choice l.condition l.inverse (drop l.index l.xs) (drop l.index l.ys) (outs_after l.index (outs_in l.outs)) l.work).0 ≡ (each_choice l.condition l.inverse l.xs l.ys (outs_in l.outs) l.fn.work).0;
  work : (each_choice l.condition l.inverse (drop l.index l.xs) (drop l.index l.ys) (outs_after l.index (outs_in l.outs)) l.work).1 ≡ (each_choice l.condition l.inverse l.xs l.ys (outs_in l.outs) l.fn.work).1;
}
