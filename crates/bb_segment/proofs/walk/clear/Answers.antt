use Rattle.std.proofs.Common.{arith}
use Rattle.bb_segment.proofs.WalkLemmas.{item_in}
use Rattle.bb_segment.proofs.walk.clear.Goals as goal

pub bounds-marks-net-inside : goal.bounds-marks-net-inside
bounds-marks-net-inside c =
    let inside = c.requires.within c.net-item.result (item_in c.args.met.now c.nets.net-index c.net-item.result c.nets-test.true c.net-item.is) in
    let long = c.nets.invariant.long in
    omega (arith, inside, long, c.net.view_is)
