use Rattle.std.proofs.Common.{◌≡◌, drop}
use Rattle.bb_scope.specs.Names.{has_name}
use Rattle.bb_scope.specs.Kinds.{texts}
use Rattle.bb_width.proofs.pins.has_pin.Given as goal

abbrev pub invariant-loop-pin : goal.invariant-loop-pin
invariant-loop-pin l = has_name (texts (drop l.pin-index l.pins)) l.name ≡ has_name (texts l.pins) l.name
