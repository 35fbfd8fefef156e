use Rattle.std.proofs.Common.{◌&&◌, map, ap, ◌∙◌}
use Rattle.bb_base.specs.Booleans.{all_true}
use Rattle.bb_eqn.specs.Values.{bits_at}
use Rattle.bb_eqn.specs.Lanes.{in_lane}
use Rattle.bb_eqn.proofs.LaneLemmas.{lane_ones}
use Rattle.bb_eqn.proofs.StepLemmas.{and_more, and_end}
use Rattle.bb_eqn.proofs.lanes.all_of.Goals as goal

pub loop-net-init : goal.loop-net-init
loop-net-init c = λ t h. ap (λ b. b && all_true (map (bits_at (in_lane t c.args.values.now)) c.args.nets.now)) (lane_ones t h)

pub loop-net-preserved : goal.loop-net-preserved
loop-net-preserved c = λ t h.
    and_more t c.loop-net.word c.loop-net.net-index c.net.inside.0 c.net-item.result c.args.nets.now c.args.values.now (all_true (map (bits_at (in_lane t c.args.values.now)) c.args.nets.now)) c.loop-net-test.true (c.net.view_is ∙ c.net-item.is) (c.loop-net.invariant t h)

pub returns : goal.returns
returns c = λ t h. and_end t c.loop-net.word c.loop-net.net-index c.args.nets.now c.args.values.now (all_true (map (bits_at (in_lane t c.args.values.now)) c.args.nets.now)) c.loop-net-test.false (c.loop-net.invariant t h)
