use Rattle.std.proofs.Common.{arith}
use Rattle.std.proofs.lemmas.Grind.{common_steps}
use Rattle.bb_scope.specs.Names.{steps_names}
use Rattle.bb_scope.proofs.UseLaws.{next_one, next_on}
use Rattle.bb_targets.proofs.items.mark_outs.Goals as goal

pub mark_driven-requires : goal.mark_driven-requires
mark_driven-requires c = next_one steps_names c.args.scope.now c.args.outs.now c.terms.term-index c.term-item.result c.as_slice.result.now c.terms.rest.now c.terms.invariant.next c.term-item.is c.terms-test.true c.as_slice.ensures

pub terms-preserved : goal.terms-preserved
terms-preserved c =
    record {
      next =
          next_on steps_names c.args.scope.now c.args.outs.now c.terms.term-index c.term-item.result c.as_slice-in-terms.result.now c.terms.rest.now c.behind_steps-rest.result.now c.terms.invariant.next c.term-item.is c.terms-test.true c.as_slice-in-terms.ensures
          c.behind_steps-rest.ensures;
      same = grind (arith, common_steps);
    }
