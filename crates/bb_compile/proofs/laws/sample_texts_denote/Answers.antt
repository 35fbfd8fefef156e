use Rattle.bb_compile.proofs.SampleLemmas.{text_denotes}
use Rattle.bb_compile.proofs.laws.sample_texts_denote.Goals as goal

pub returns : goal.returns
returns c = text_denotes (record {
  named = c.samples_are_netlists.ensures.named;
  by_bits = c.samples_are_netlists.ensures.by_bits;
  order = c.samples_are_netlists.ensures.order;
  own = c.samples_are_netlists.ensures.own;
  few = c.samples_are_netlists.ensures.few;
}) c.canonical_elaborates.ensures.restores
