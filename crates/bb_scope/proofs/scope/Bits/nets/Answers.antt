use Rattle.std.proofs.Common.{arith}
use Rattle.std.proofs.lemmas.Grind.{common_steps}
use Rattle.bb_scope.proofs.ScopeLaws.{range_next, range_done}
use Rattle.bb_scope.proofs.scope.Bits.nets.Goals as goal

pub loop-net-preserved : goal.loop-net-preserved
loop-net-preserved c =
    let next = range_next c.loop-net.net c.args.self.end c.loop-net-test.true in
    grind (arith, common_steps, next, c.loop-net.invariant, c.in_ok-push.ensures.items)

pub returns : goal.returns
returns c =
    let none = range_done c.loop-net.net c.args.self.end c.loop-net-test.false in
    grind (arith, common_steps, none, c.loop-net.invariant)
