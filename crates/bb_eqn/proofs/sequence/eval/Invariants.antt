use Rattle.std.proofs.Common.{◌≡◌, ◌<◌, ℕ, length, drop}
use Rattle.bb_eqn.proofs.Evaluated.{evaluated}
use Rattle.bb_eqn.specs.Lanes.{in_lane}
use Rattle.bb_eqn.proofs.sequence.eval.Given as goal

abbrev pub invariant-loop-gate : goal.invariant-loop-gate
invariant-loop-gate l = record {
  long : length l.values ≡ length l.initial.values;
  so_far : (t : ℕ) → t < 64 → evaluated (drop l.gate-index l.gates) (in_lane t l.values) ≡ evaluated l.gates (in_lane t l.initial.values);
}
