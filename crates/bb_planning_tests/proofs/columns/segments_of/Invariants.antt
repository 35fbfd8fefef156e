use Rattle.std.specs.List.{AllByRecursion}
use Rattle.bb_code.specs.Segments.{IsSegment, sources_of}
use Rattle.bb_planning_tests.proofs.columns.segments_of.Given as goal

abbrev pub invariant-loop-list : goal.invariant-loop-list
invariant-loop-list g l = AllByRecursion (IsSegment l.sources) (sources_of l.segments.items)
