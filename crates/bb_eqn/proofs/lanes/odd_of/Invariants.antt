use Rattle.std.proofs.Common.{◌≡◌, ◌<◌, ℕ, map, drop}
use Rattle.bb_base.specs.Booleans.{xor, parity_of_bits}
use Rattle.bb_eqn.specs.Values.{bits_at}
use Rattle.bb_eqn.specs.Lanes.{lane, in_lane}
use Rattle.bb_eqn.proofs.lanes.odd_of.Given as goal

abbrev pub invariant-loop-net : goal.invariant-loop-net
invariant-loop-net l = (t : ℕ) → t < 64 → xor (lane t l.word) (parity_of_bits (map (bits_at (in_lane t l.values)) (drop l.net-index l.nets))) ≡ parity_of_bits (map (bits_at (in_lane t l.values)) l.nets)
