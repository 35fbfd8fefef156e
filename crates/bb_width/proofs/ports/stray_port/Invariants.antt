use Rattle.std.proofs.Common.{◌≡◌, drop}
use Rattle.std.specs.Prelude.{flat_map}
use Rattle.bb_scope.specs.Declarations.{item_decls}
use Rattle.bb_scope.specs.Said.{stray_fault}
use Rattle.bb_width.proofs.ports.stray_port.Given as goal

abbrev pub invariant-loop-item : goal.invariant-loop-item
invariant-loop-item l = stray_fault l.header.keys (flat_map item_decls (drop l.item-index l.items)) ≡ stray_fault l.header.keys (flat_map item_decls l.items)
