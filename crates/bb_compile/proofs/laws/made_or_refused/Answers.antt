use Rattle.bb_compile.proofs.CallEnds.{never_both, sample_never_both}
use Rattle.bb_compile.proofs.laws.made_or_refused.Goals as goal

pub returns-clause-texts : goal.returns-clause-texts
returns-clause-texts c = never_both c.one_end_of.ensures.one c.one_order.ensures c.read_netlists_are_ready.ensures.texts c.one_arrangement.ensures

pub returns-clause-samples : goal.returns-clause-samples
returns-clause-samples c = sample_never_both c.one_order.ensures c.samples_are_ready.ensures c.one_arrangement.ensures
