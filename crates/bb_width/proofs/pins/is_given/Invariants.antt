use Rattle.std.proofs.Common.{◌≡◌, drop}
use Rattle.bb_scope.specs.Cells.{is_given}
use Rattle.bb_width.proofs.pins.is_given.Given as goal

abbrev pub invariant-loop-pin : goal.invariant-loop-pin
invariant-loop-pin l = is_given (drop l.pin-index l.pins) l.name ≡ is_given l.pins l.name
