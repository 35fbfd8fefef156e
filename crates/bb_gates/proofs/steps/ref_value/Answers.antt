use Rattle.std.proofs.Common.{arith, ap}
use Rattle.std.proofs.lemmas.Grind.{common_steps}
use Rattle.bb_scope.specs.Making.{as_value}
use Rattle.bb_scope.proofs.ScopeLaws.{range_next}
use Rattle.bb_gates.proofs.steps.ref_value.Goals as goal

pub loop-net-preserved : goal.loop-net-preserved
loop-net-preserved c =
    let next = ap as_value (range_next c.loop-net.net c.args.named.end c.loop-net-test.true) in
    grind (arith, common_steps, next, c.loop-net.invariant, c.in_ok-push.ensures.items)
