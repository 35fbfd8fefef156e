use Rattle.std.proofs.Common.{◌≡◌, [], drop}
use Rattle.bb_scope.specs.Making.{assigned}
use Rattle.bb_scope.specs.Names.{steps_names}
use Rattle.bb_scope.specs.Uses.{AreNext}
use Rattle.bb_gates.proofs.steps.assigned.Given as goal

abbrev pub invariant-loop-index : goal.invariant-loop-index
invariant-loop-index l = record {
  next : AreNext l.scope (steps_names (drop l.index l.steps)) l.rest;
  made : (assigned l.scope l.targets (drop l.index l.steps) l.stack l.work).1 ≡ (assigned l.scope l.targets l.steps [] l.fn.work).1;
}
