use Rattle.std.specs.List.{AllByRecursion}
use Rattle.bb_code.specs.Segments.{IsSegment, sources_of}
use Rattle.columns_bench.proofs.segments_of.Given as goal

abbrev pub invariant-loop : goal.invariant-loop
invariant-loop l = AllByRecursion (IsSegment l.sources) (sources_of l.segments.items)
