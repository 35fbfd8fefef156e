use Rattle.std.proofs.Common.{map, ap, ◌∙◌}
use Rattle.bb_base.specs.Booleans.{xor, parity_of_bits}
use Rattle.bb_eqn.specs.Values.{bits_at}
use Rattle.bb_eqn.specs.Lanes.{in_lane}
use Rattle.bb_eqn.proofs.LaneLemmas.{lane_zero}
use Rattle.bb_eqn.proofs.StepLemmas.{xor_more, xor_end}
use Rattle.bb_eqn.proofs.lanes.odd_of.Goals as goal

pub loop-net-init : goal.loop-net-init
loop-net-init c = λ t h. ap (λ b. xor b (parity_of_bits (map (bits_at (in_lane t c.args.values.now)) c.args.nets.now))) (lane_zero t)

pub loop-net-preserved : goal.loop-net-preserved
loop-net-preserved c = λ t h.
    xor_more t c.loop-net.word c.loop-net.net-index c.net.inside.0 c.net-item.result c.args.nets.now c.args.values.now (parity_of_bits (map (bits_at (in_lane t c.args.values.now)) c.args.nets.now)) c.loop-net-test.true (c.net.view_is ∙ c.net-item.is) (c.loop-net.invariant t h)

pub returns : goal.returns
returns c = λ t h. xor_end t c.loop-net.word c.loop-net.net-index c.args.nets.now c.args.values.now (parity_of_bits (map (bits_at (in_lane t c.args.values.now)) c.args.nets.now)) c.loop-net-test.false (c.loop-net.invariant t h)
