use Rattle.std.proofs.Common.{rules}
use Rattle.bb_spell.proofs.Again.{digit_step}
use Rattle.bb_spell.proofs.scan.value_of.Goals as goal

pub digits-preserved : goal.digits-preserved
digits-preserved c = record {
  value = digit_step c.args.cap c.digits.value c.min-value.result c.digits.digit-index _ c.args.digits.now (search rules) c.digits-test.true c.digits.invariant.value;
  bound = search rules;
}
