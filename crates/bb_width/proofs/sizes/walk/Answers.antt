use Rattle.std.proofs.Common.{arith}
use Rattle.std.proofs.lemmas.Grind.{common_steps}
use Rattle.bb_scope.specs.Names.{step_names}
use Rattle.bb_scope.proofs.UseLaws.{next_items}
use Rattle.bb_width.proofs.sizes.walk.Goals as goal

pub loop-index-preserved : goal.loop-index-preserved
loop-index-preserved c =
    record {
      next =
          next_items step_names c.args.scope.now c.args.steps.now c.loop-index.index c.index-steps-index.result c.loop-index.rest.now c.behind_step-rest.result.now c.loop-index.invariant.next
          c.index-steps-index.is c.loop-index-test.true c.behind_step-rest.ensures;
      fault = grind (arith, common_steps);
      stack = grind (arith, common_steps);
      few = grind (arith, common_steps);
      nets = grind (arith, common_steps);
    }
