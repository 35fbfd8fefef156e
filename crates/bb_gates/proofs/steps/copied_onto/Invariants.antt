use Rattle.std.proofs.Common.{◌≡◌, drop}
use Rattle.bb_scope.specs.Making.{copied_onto}
use Rattle.bb_gates.proofs.steps.copied_onto.Given as goal

abbrev pub invariant-loop-index : goal.invariant-loop-index
invariant-loop-index l = (copied_onto (drop l.index l.targets) (drop l.index l.bits) l.work).1 ≡ (copied_onto l.targets l.bits l.fn.work).1
