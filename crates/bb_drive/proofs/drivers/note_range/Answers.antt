use Rattle.std.proofs.Common.{◌+◌, ◌-◌, ap, ◌∙◌, sym, fold}
use Rattle.bb_drive.specs.Tallies.{tally}
use Rattle.bb_drive.proofs.Tallied.{range_next}
use Rattle.std.specs.List.{range_with_len}
use Rattle.bb_drive.proofs.drivers.note_range.Goals as goal

pub loop-bit-preserved : goal.loop-bit-preserved
loop-bit-preserved c =
    let next = range_next c.args.end c.loop-bit.bit c.loop-bit-test.true in
    ap (λ x. fold tally x (range_with_len (c.loop-bit.bit + 1) (c.args.end - (c.loop-bit.bit + 1)))) c.note.ensures
    ∙ (sym (ap (fold tally c.loop-bit.counts) next) ∙ c.loop-bit.invariant)
