use Rattle.std.proofs.Common.{◌≡◌, drop}
use Rattle.bb_scope.specs.Making.{all_driven}
use Rattle.bb_gates.proofs.prims.all_driven.Given as goal

abbrev pub invariant-loop-target : goal.invariant-loop-target
invariant-loop-target l = (all_driven l.op l.ins (drop l.target-index l.targets) l.work).1 ≡ (all_driven l.op l.ins l.targets l.fn.work).1
