use Rattle.bb_code.specs.Segments.{IsSegment}
use Rattle.bb_planning_tests.proofs.columns.segment_of.Given as goal

abbrev pub invariant-loop-source : goal.invariant-loop-source
invariant-loop-source g l = IsSegment l.sources l.segment.items
