use Rattle.std.specs.List.{AllByRecursion}
use Rattle.bb_code.specs.Segments.{IsSegment, sources_of}
use Rattle.bb_planning_tests.proofs.chosen.segments_of.Given as goal

abbrev pub invariant-loop-leaves : goal.invariant-loop-leaves
invariant-loop-leaves g l = AllByRecursion (IsSegment l.count) (sources_of l.segments.items)
