use Rattle.bb_base.specs.Bits.{from_bits}
use Rattle.bb_eqn.specs.Lanes.{in_lane}
use Rattle.bb_sign.proofs.TakenLemmas.{taken_more}
use Rattle.bb_sign.proofs.compactors.take_in.Goals as goal

pub loop-lane-preserved : goal.loop-lane-preserved
loop-lane-preserved c = record {
  value = taken_more c.args.cells c.args.mask (λ t. from_bits (in_lane t c.args.rows.now)) c.loop-lane.lane c.args.held c.loop-lane.state c.lines_at.result c.misr_step-state.result c.loop-lane.invariant.value
      (c.lines_at.ensures c.args.rows.now c.told-rows c.transpose.ensures) c.misr_step-state.ensures.value;
  below = c.misr_step-state.ensures.below;
}
