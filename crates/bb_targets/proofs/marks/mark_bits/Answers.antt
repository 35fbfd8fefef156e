use Rattle.std.proofs.Common.{arith, ◌≡◌, ◌<◌, ◌∙◌, sym, true, false, get_or}
use Rattle.std.proofs.lemmas.List.{length-set}
use Rattle.bb_targets.proofs.MarkLaws.{mark_ends, mark_next, walk_done}
use Rattle.bb_targets.proofs.marks.mark_bits.Goals as goal

pub returns-then-marks-bit-clause-marks : goal.returns-then-marks-bit-clause-marks
returns-then-marks-bit-clause-marks c =
    let less : c.bits.bit < c.args.end = omega (arith, c.bits-test.true, c.min-bit-end.ensures) in
    let low : c.bits.bit < c.args.least = omega (arith, c.bits-test.true, c.min-bit-end.ensures) in
    let marked : get_or c.bits.marks c.bits.bit false ≡ true = grind (arith, c.if-marks-bit.true) in
    sym (mark_ends c.bits.marks c.args.least c.bits.bit c.args.end less low marked) ∙ c.bits.invariant.same

pub bits-preserved : goal.bits-preserved
bits-preserved c =
    let less : c.bits.bit < c.args.end = omega (arith, c.bits-test.true, c.min-bit-end.ensures) in
    let low : c.bits.bit < c.args.least = omega (arith, c.bits-test.true, c.min-bit-end.ensures) in
    let free : get_or c.bits.marks c.bits.bit false ≡ false = grind (arith, c.if-marks-bit.false) in
    record {
      long = length-set c.bits.marks c.bits.bit true ∙ c.bits.invariant.long;
      same = sym (mark_next c.bits.marks c.args.least c.bits.bit c.args.end less low free) ∙ c.bits.invariant.same;
    }

pub returns-clause-marks : goal.returns-clause-marks
returns-clause-marks c =
    sym (walk_done (record { marks = c.bits.marks; least = c.args.least }) c.bits.bit c.args.end (omega (arith, c.bits-test.false, c.min-bit-end.ensures))) ∙ c.bits.invariant.same
