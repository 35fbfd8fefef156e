use Rattle.std.proofs.Common.{◌≡◌, drop, fold}
use Rattle.std.specs.Prelude.{flat_map}
use Rattle.bb_scope.specs.Names.{item_names}
use Rattle.bb_scope.specs.Uses.{with_use}
use Rattle.bb_width.proofs.table.add_items.Given as goal

abbrev pub invariant-loop-item : goal.invariant-loop-item
invariant-loop-item l = fold (with_use l.said.entries) l.used (flat_map item_names (drop l.item-index l.items)) ≡ fold (with_use l.said.entries) l.initial.used (flat_map item_names l.items)
