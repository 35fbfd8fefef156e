use Rattle.std.proofs.Common.{arith, ◌≡◌, Some, slice_get}
use Rattle.std.proofs.lemmas.Grind.{common_steps}
use Rattle.std.proofs.lemmas.Option.{gets}
use Rattle.bb_base.specs.Levels.{depth_in}
use Rattle.bb_netlist.proofs.OrderLemmas.{closed_more, some_of}
use Rattle.bb_netlist.proofs.order.first_open_of.Goals as goal

pub nets-preserved : goal.nets-preserved
nets-preserved c =
    let i = c.nets.net-index in
    let at : slice_get c.args.nets.now i ≡ Some c.net.inside.0 = grind (arith, gets, common_steps) in
    let more = closed_more (depth_in c.args.depths.now) c.args.nets.now i c.net.inside.0 at (some_of (depth_in c.args.depths.now c.net.inside.0) c.if-is_none.ensures) c.nets.invariant.closed c.nets.invariant.earlier in
    record { closed = more.closed; earlier = more.earlier }
