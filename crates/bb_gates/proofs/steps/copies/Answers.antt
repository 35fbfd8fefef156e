use Rattle.std.proofs.Common.{arith}
use Rattle.std.proofs.lemmas.Grind.{common_steps}
use Rattle.bb_gates.proofs.StepLaws.{copies_next}
use Rattle.bb_gates.proofs.steps.copies.Goals as goal

pub loop-preserved : goal.loop-preserved
loop-preserved c =
    let next = copies_next c.args.times c.loop.counter c.args.value.now c.loop-test.true in
    grind (arith, common_steps, next, c.loop.invariant, c.in_ok-extend_from_slice.ensures.items)
