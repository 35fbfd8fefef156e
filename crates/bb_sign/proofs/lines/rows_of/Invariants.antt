use Rattle.std.proofs.Common.{◌≡◌, ◌<◌, ◌≤◌, ℕ, length, map, take, slice_index}
use Rattle.bb_eqn.specs.Values.{bits_at}
use Rattle.bb_eqn.specs.Lanes.{in_lane}
use Rattle.bb_sign.specs.Compactors.{start_bit}
use Rattle.bb_sign.proofs.lines.rows_of.Given as goal

abbrev pub invariant-loop-place : goal.invariant-loop-place
invariant-loop-place l = record {
  long : length l.rows ≡ 16;
  so_far : (t : ℕ) → t < 64 → in_lane t (take l.place l.rows) ≡ map (start_bit l.netlist.gates (bits_at (in_lane t l.values))) (take l.place l.starts);
  ahead : (i : ℕ) → l.place ≤ i → slice_index l.rows i ≡ 0;
}
