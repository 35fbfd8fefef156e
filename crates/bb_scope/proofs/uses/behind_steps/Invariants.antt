use Rattle.std.proofs.Common.{◌≡◌, drop, length}
use Rattle.bb_scope.specs.Names.{steps_names}
use Rattle.bb_scope.proofs.uses.behind_steps.Given as goal

abbrev pub invariant-loop-step : goal.invariant-loop-step
invariant-loop-step l = drop (length (steps_names (drop l.step-index l.steps))) l.rest ≡ drop (length (steps_names l.steps)) l.uses
