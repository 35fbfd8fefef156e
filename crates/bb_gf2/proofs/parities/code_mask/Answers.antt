use Rattle.std.proofs.Common.{sym, ◌∙◌, arith}
use Rattle.bb_gf2.proofs.Steps.{mask_with, mask_without}
use Rattle.bb_gf2.proofs.parities.code_mask.Goals as goal
use Rattle.bb_gf2.proofs.parities.code_mask.Goals.{then-code_bit, else-code_bit}

pub loop-place-preserved : goal.loop-place-preserved
loop-place-preserved c =
    let columns = c.args.columns.now in
    elim c.if-code_bit.branch [
      | then-code_bit w ↦ w.mask-is ∙ mask_with columns c.args.state c.loop-place.place c.loop-place.mask c.loop-place-test.true (omega arith) c.loop-place.invariant (sym c.code_bit.ensures ∙ w.if-code_bit.true)
      | else-code_bit w ↦ w.mask-is ∙ mask_without columns c.args.state c.loop-place.place c.loop-place.mask c.loop-place-test.true c.loop-place.invariant (sym c.code_bit.ensures ∙ w.if-code_bit.false)
    ]
