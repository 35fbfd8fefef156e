use Rattle.std.proofs.Common.{◌≡◌, drop}
use Rattle.bb_scope.specs.Kinds.{kind_value}
use Rattle.bb_scope.specs.Making.{out_of}
use Rattle.bb_scope.specs.Uses.{AreNext, pins_names}
use Rattle.bb_gates.proofs.cell_gates.out_of.Given as goal

abbrev pub invariant-loop-pin : goal.invariant-loop-pin
invariant-loop-pin l = record {
  next : AreNext l.scope (pins_names (drop l.pin-index l.pins)) l.rest;
  made : out_of l.scope (kind_value l.kind) (drop l.pin-index l.pins) ≡ out_of l.scope (kind_value l.kind) l.pins;
}
