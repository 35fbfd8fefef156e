use Rattle.std.proofs.Common.{◌≡◌, drop, fold}
use Rattle.bb_scope.specs.Names.{steps_names}
use Rattle.bb_scope.specs.Uses.{with_use}
use Rattle.bb_width.proofs.table.add_steps.Given as goal

abbrev pub invariant-loop-step : goal.invariant-loop-step
invariant-loop-step l = fold (with_use l.said.entries) l.used (steps_names (drop l.step-index l.steps)) ≡ fold (with_use l.said.entries) l.initial.used (steps_names l.steps)
