use Rattle.std.proofs.Common.{◌≡◌, [], ◌+◌, ◌<◌, ◌^◌, drop}
use Rattle.bb_fault.specs.Limits.{told_count}
use Rattle.bb_scope.specs.Sizes.{steps_fault, steps_stack, steps_nets}
use Rattle.bb_scope.specs.Names.{steps_names}
use Rattle.bb_scope.specs.Uses.{AreNext}
use Rattle.bb_width.proofs.sizes.walk.Given as goal

abbrev pub invariant-loop-index : goal.invariant-loop-index
invariant-loop-index l = record {
  next : AreNext l.scope (steps_names (drop l.index l.steps)) l.rest;
  fault : steps_fault l.scope l.line (drop l.index l.steps) l.stack ≡ steps_fault l.scope l.line l.steps [];
  stack : steps_stack l.scope (drop l.index l.steps) l.stack ≡ steps_stack l.scope l.steps [];
  few : l.nets < 2 ^ 64;
  nets : told_count (l.nets + steps_nets l.scope l.drives (drop l.index l.steps) l.stack) ≡ told_count (steps_nets l.scope l.drives l.steps []);
}
