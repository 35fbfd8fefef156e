use Rattle.bb_compile.proofs.SampleLemmas.{is_ready}
use Rattle.bb_compile.proofs.laws.samples_are_ready.Goals as goal

pub returns : goal.returns
returns c = is_ready (record {
  named = c.samples_are_netlists.ensures.named;
  by_bits = c.samples_are_netlists.ensures.by_bits;
  order = c.samples_are_netlists.ensures.order;
  own = c.samples_are_netlists.ensures.own;
  few = c.samples_are_netlists.ensures.few;
})
