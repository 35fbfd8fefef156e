use Rattle.bb_code.specs.Segments.{IsSegment}
use Rattle.columns_bench.proofs.segment_of.Given as goal

abbrev pub invariant-loop : goal.invariant-loop
invariant-loop l = IsSegment l.sources l.segment.items
