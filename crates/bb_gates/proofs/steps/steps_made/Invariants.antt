use Rattle.std.proofs.Common.{◌≡◌, drop}
use Rattle.bb_scope.specs.Making.{steps_made}
use Rattle.bb_scope.specs.Names.{steps_names}
use Rattle.bb_scope.specs.Uses.{AreNext}
use Rattle.bb_gates.proofs.steps.steps_made.Given as goal

abbrev pub invariant-loop-step : goal.invariant-loop-step
invariant-loop-step l = record {
  next : AreNext l.scope (steps_names (drop l.step-index l.steps)) l.rest;
  made : steps_made l.scope (drop l.step-index l.steps) l.stack l.work ≡ steps_made l.scope l.steps l.fn.stack l.fn.work;
}
