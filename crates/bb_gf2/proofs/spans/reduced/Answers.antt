use Rattle.std.proofs.Common.{◌+◌, take, sym, subst}
use Rattle.bb_base.specs.Span.{IsInCoset}
use Rattle.bb_base.specs.Firsts.{IsLeast}
use Rattle.bb_gf2.proofs.Cosets.{least_more}
use Rattle.bb_gf2.proofs.spans.reduced.Goals as goal

pub loop-row-preserved : goal.loop-row-preserved
loop-row-preserved c =
    subst (IsLeast (IsInCoset (take (c.loop-row.row-index + 1) c.args.rows.now) c.args.v)) (sym c.min-least.ensures)
    (least_more c.args.rows.now c.loop-row.row-index c.args.v c.loop-row.least c.loop-row-test.true c.requires c.loop-row.invariant)
