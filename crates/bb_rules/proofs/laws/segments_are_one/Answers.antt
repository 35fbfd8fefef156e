use Rattle.bb_rules.proofs.SegmentLemmas.{one_segments, leaf_in_segment}
use Rattle.bb_rules.proofs.laws.segments_are_one.Goals as goal

pub returns-clause-one : goal.returns-clause-one
returns-clause-one c = one_segments

pub returns-clause-leaves : goal.returns-clause-leaves
returns-clause-leaves c = leaf_in_segment
