use Rattle.std.proofs.Common.{◌≡◌, drop, fold}
use Rattle.std.specs.Prelude.{flat_map}
use Rattle.bb_scope.specs.Names.{item_names}
use Rattle.bb_scope.specs.Uses.{AreNext}
use Rattle.bb_targets.specs.Marks.{with_mark}
use Rattle.bb_targets.specs.Targets.{item_targets}
use Rattle.bb_targets.proofs.items.mark_items.Given as goal

abbrev pub invariant-items : goal.invariant-items
invariant-items l = record {
  next : AreNext l.scope (flat_map item_names (drop l.item-index l.items)) l.rest;
  same : fold with_mark l.marks (flat_map (item_targets l.scope) (drop l.item-index l.items)) ≡ fold with_mark l.fn.marks (flat_map (item_targets l.scope) l.items);
}
