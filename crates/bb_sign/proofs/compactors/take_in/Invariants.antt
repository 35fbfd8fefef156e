use Rattle.std.proofs.Common.{◌≡◌, ◌<◌, ◌^◌}
use Rattle.bb_base.specs.Bits.{from_bits}
use Rattle.bb_eqn.specs.Lanes.{in_lane}
use Rattle.bb_sign.specs.Compactors.{taken_in}
use Rattle.bb_sign.proofs.compactors.take_in.Given as goal

abbrev pub invariant-loop-lane : goal.invariant-loop-lane
invariant-loop-lane l = record {
  value : l.state ≡ taken_in l.cells l.mask (λ t. from_bits (in_lane t l.fn.rows)) l.lane l.held;
  below : l.state < 2 ^ l.cells;
}
