use Rattle.std.proofs.Common.{◌≡◌, drop}
use Rattle.bb_scope.specs.Kinds.{kind_value}
use Rattle.bb_scope.specs.Uses.{AreNext, pins_names}
use Rattle.bb_targets.specs.Targets.{out_bits}
use Rattle.bb_targets.proofs.items.mark_pins.Given as goal

abbrev pub invariant-pins : goal.invariant-pins
invariant-pins l = record {
  next : AreNext l.scope (pins_names (drop l.pin-index l.pins)) l.rest;
  kept : l.marks ≡ l.fn.marks;
  same : out_bits l.scope (kind_value l.kind) (drop l.pin-index l.pins) ≡ out_bits l.scope (kind_value l.kind) l.pins;
}
