use Rattle.std.proofs.Common.{◌∙◌, ◌||◌, arith, ap, length}
use Rattle.bb_drive.specs.Origins.{is_marked}
use Rattle.bb_drive.proofs.MarkLaws.{range_end}
use Rattle.bb_drive.proofs.marks.mark_range.Goals as goal

pub returns : goal.returns
returns c = record {
  long = c.bits.invariant.long;
  each = λ b small. c.bits.invariant.each b small
      ∙ ap (λ t. is_marked c.args.marks.now b || t)
      (range_end c.args.first c.args.width (length c.args.marks.now) c.min-end.result c.bits.bit b small c.requires (omega (arith, c.min-end.ensures, c.saturating_add.ensures)) c.bits.auto.bit-end c.bits-test.false);
}
