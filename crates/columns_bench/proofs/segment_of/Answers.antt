use Rattle.std.proofs.Common.{sym, subst}
use Rattle.bb_code.specs.Segments.{IsSegment}
use Rattle.columns_bench.proofs.Lemmas.{none_twice}
use Rattle.columns_bench.proofs.segment_of.Goals as goal

pub loop-init : goal.loop-init
loop-init c = subst (IsSegment c.args.sources) (sym c.new-segment.ensures) (record { below = tt; distinct = none_twice })
