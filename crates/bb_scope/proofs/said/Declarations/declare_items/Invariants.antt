use Rattle.std.proofs.Common.{◌≡◌, fold, drop}
use Rattle.std.specs.Prelude.{flat_map}
use Rattle.std.specs.Option.{option_or}
use Rattle.bb_scope.specs.Declarations.{item_decls}
use Rattle.bb_scope.specs.Said.{with_decl, first_clash}
use Rattle.bb_scope.proofs.said.Declarations.declare_items.Given as goal

abbrev pub invariant-loop-item : goal.invariant-loop-item
invariant-loop-item l = record {
  said : fold with_decl l.self.said.entries (flat_map item_decls (drop l.item-index l.items)) ≡ fold with_decl l.initial.self.said.entries (flat_map item_decls l.items);
  clash :
      option_or l.self.clash (first_clash l.self.said.entries (flat_map item_decls (drop l.item-index l.items)))
      ≡ option_or l.initial.self.clash (first_clash l.initial.self.said.entries (flat_map item_decls l.items));
}
