use Rattle.std.proofs.Common.{◌≡◌, drop}
use Rattle.bb_scope.specs.Making.{nets_of}
use Rattle.bb_gates.proofs.cell_gates.nets_of.Given as goal

abbrev pub invariant-loop-pin : goal.invariant-loop-pin
invariant-loop-pin l = nets_of (drop l.pin-index l.read) l.name ≡ nets_of l.read l.name
