use Rattle.std.proofs.Common.{arith}
use Rattle.std.proofs.lemmas.Grind.{common_steps}
use Rattle.bb_scope.specs.Names.{item_names}
use Rattle.bb_scope.proofs.UseLaws.{next_item, next_items}
use Rattle.bb_width.proofs.parts.items.Goals as goal

pub item-requires : goal.item-requires
item-requires c = next_item item_names c.args.scope.now c.args.list.now c.loop-one.one-index c.one-item.result c.loop-one.rest.now c.loop-one.invariant.next c.one-item.is c.loop-one-test.true

pub loop-one-preserved : goal.loop-one-preserved
loop-one-preserved c =
    record {
      next = next_items item_names c.args.scope.now c.args.list.now c.loop-one.one-index c.one-item.result c.loop-one.rest.now c.behind_item-rest.result.now c.loop-one.invariant.next c.one-item.is c.loop-one-test.true c.behind_item-rest.ensures;
      fault = grind (arith, common_steps);
      few = grind (arith, common_steps);
      nets = grind (arith, common_steps);
    }
