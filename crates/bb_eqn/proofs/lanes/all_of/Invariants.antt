use Rattle.std.proofs.Common.{◌≡◌, ◌<◌, ◌&&◌, ℕ, map, drop}
use Rattle.bb_base.specs.Booleans.{all_true}
use Rattle.bb_eqn.specs.Values.{bits_at}
use Rattle.bb_eqn.specs.Lanes.{lane, in_lane}
use Rattle.bb_eqn.proofs.lanes.all_of.Given as goal

abbrev pub invariant-loop-net : goal.invariant-loop-net
invariant-loop-net l = (t : ℕ) → t < 64 → (lane t l.word && all_true (map (bits_at (in_lane t l.values)) (drop l.net-index l.nets))) ≡ all_true (map (bits_at (in_lane t l.values)) l.nets)
