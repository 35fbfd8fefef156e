use Rattle.std.proofs.Common.{arith, ◌≡◌, ◌<◌, ◌+◌, ◌^◌, ℕ, List, ◌∷◌, drop, ap, refl}
use Rattle.std.proofs.lemmas.Grind.{common_steps}
use Rattle.bb_base.specs.Variables.{Entry}
use Rattle.bb_parse.specs.declared.syntax.Item.{Item}
use Rattle.bb_scope.specs.Names.{item_names}
use Rattle.bb_scope.proofs.UseLaws.{next_item, next_items}
use Rattle.bb_fault.specs.Work.{Work}
use Rattle.bb_scope.specs.Making.{item_made, items_made}
use Rattle.bb_gates.proofs.Growing.{items-grow}
use Rattle.bb_gates.proofs.items.items_made.Goals as goal

pub item_made-requires-clause-next : goal.item_made-requires-clause-next
item_made-requires-clause-next c = next_item item_names c.args.scope.now c.args.items.now c.loop-item.item-index c.item-item.result c.loop-item.rest.now c.loop-item.invariant.next c.item-item.is c.loop-item-test.true

-- there are numbers for the nets of an item, where there is one for each net of all
fits :
    (table : List Entry) (items : List Item) (i : ℕ) (x y : Item) (w all : Work) → drop i items ≡ x ∷ drop (i + 1) items → y ≡ x → items_made table (drop i items) w ≡ all → all.fresh < 2 ^ 32
    → (item_made table y w).1.fresh < 2 ^ 32
fits table items i x y w all here same made small =
    omega (
      arith,
      ap (λ z. (item_made table z w).1.fresh) same,
      ap (λ is. (items_made table is w).fresh) here,
      ap (λ (v : Work). v.fresh) made,
      small,
      items-grow table (drop (i + 1) items) (item_made table x w).1,
    )

pub item_made-requires-clause-room : goal.item_made-requires-clause-room
item_made-requires-clause-room c =
    let i = c.loop-item.item-index in
    let items = c.args.items.now in
    let here : drop i items ≡ c.item-item.result ∷ drop (i + 1) items = grind (arith, common_steps) in
    fits c.args.scope.now items i c.item-item.result c.item-item.result c.loop-item.work (items_made c.args.scope.now items c.args.work.now) here refl c.loop-item.invariant.made c.requires.room

pub loop-item-preserved : goal.loop-item-preserved
loop-item-preserved c =
    record {
      next = next_items item_names c.args.scope.now c.args.items.now c.loop-item.item-index c.item-item.result c.loop-item.rest.now c.behind_item-rest.result.now c.loop-item.invariant.next c.item-item.is c.loop-item-test.true c.behind_item-rest.ensures;
      made = grind (arith, common_steps);
    }
