use Rattle.std.proofs.Common.{arith}
use Rattle.std.proofs.lemmas.Grind.{common_steps}
use Rattle.bb_gates.proofs.StepLaws.{bits_next}
use Rattle.bb_gates.proofs.steps.const_bits.Goals as goal

pub loop-place-preserved : goal.loop-place-preserved
loop-place-preserved c =
    let next = bits_next c.args.size c.loop-place.place c.args.number c.loop-place-test.true in
    grind (arith, common_steps, next, c.bit_at.ensures, c.loop-place.invariant, c.in_ok-push.ensures.items)
