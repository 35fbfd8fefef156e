use Rattle.std.proofs.Common.{arith}
use Rattle.std.proofs.lemmas.Grind.{common_steps}
use Rattle.bb_scope.specs.Names.{item_names}
use Rattle.bb_scope.proofs.UseLaws.{next_item, next_items}
use Rattle.bb_targets.proofs.items.mark_items.Goals as goal

pub mark_item-requires : goal.mark_item-requires
mark_item-requires c = next_item item_names c.args.scope.now c.args.items.now c.items.item-index c.item-item.result c.items.rest.now c.items.invariant.next c.item-item.is c.items-test.true

pub items-preserved : goal.items-preserved
items-preserved c =
    record {
      next = next_items item_names c.args.scope.now c.args.items.now c.items.item-index c.item-item.result c.items.rest.now c.behind_item-rest.result.now c.items.invariant.next c.item-item.is c.items-test.true c.behind_item-rest.ensures;
      same = grind (arith, common_steps);
    }
