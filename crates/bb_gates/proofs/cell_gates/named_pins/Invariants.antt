use Rattle.std.proofs.Common.{◌≡◌, take}
use Rattle.bb_gates.proofs.cell_gates.named_pins.Given as goal

abbrev pub invariant-loop-name : goal.invariant-loop-name
invariant-loop-name l = l.list.items ≡ take l.name-index l.pins
