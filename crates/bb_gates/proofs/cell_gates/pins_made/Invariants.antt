use Rattle.std.proofs.Common.{◌≡◌, ◌++◌, drop}
use Rattle.bb_scope.specs.Kinds.{kind_value}
use Rattle.bb_scope.specs.Making.{pins_made}
use Rattle.bb_scope.specs.Uses.{AreNext, pins_names}
use Rattle.bb_gates.proofs.cell_gates.pins_made.Given as goal

abbrev pub invariant-loop-pin : goal.invariant-loop-pin
invariant-loop-pin l = record {
  next : AreNext l.scope (pins_names (drop l.pin-index l.pins)) l.rest;
  read : l.read.items ++ (pins_made l.scope (kind_value l.kind) (drop l.pin-index l.pins) l.work).0 ≡ (pins_made l.scope (kind_value l.kind) l.pins l.fn.work).0;
  work : (pins_made l.scope (kind_value l.kind) (drop l.pin-index l.pins) l.work).1 ≡ (pins_made l.scope (kind_value l.kind) l.pins l.fn.work).1;
}
