use Rattle.std.proofs.Common.{◌≡◌, drop}
use Rattle.bb_scope.specs.Cells.{is_repeated}
use Rattle.bb_width.proofs.pins.is_repeated.Given as goal

abbrev pub invariant-loop-other : goal.invariant-loop-other
invariant-loop-other l = is_repeated (drop l.other-index l.before) l.pin ≡ is_repeated l.before l.pin
