use Rattle.std.proofs.Common.{◌≡◌, drop}
use Rattle.bb_scope.specs.Making.{items_made}
use Rattle.std.specs.Prelude.{flat_map}
use Rattle.bb_scope.specs.Names.{item_names}
use Rattle.bb_scope.specs.Uses.{AreNext}
use Rattle.bb_gates.proofs.items.items_made.Given as goal

abbrev pub invariant-loop-item : goal.invariant-loop-item
invariant-loop-item l = record {
  next : AreNext l.scope (flat_map item_names (drop l.item-index l.items)) l.rest;
  made : items_made l.scope (drop l.item-index l.items) l.work ≡ items_made l.scope l.items l.fn.work;
}
