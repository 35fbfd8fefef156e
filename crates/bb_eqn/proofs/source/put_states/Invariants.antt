use Rattle.std.proofs.Common.{◌≡◌, ◌<◌, ◌^◌, ℕ, slice_index}
use Rattle.bb_eqn.specs.Lanes.{lane, state_on}
use Rattle.bb_eqn.proofs.source.put_states.Given as goal

abbrev pub invariant-loop-place : goal.invariant-loop-place
invariant-loop-place l = record {
  state : l.state ≡ state_on l.degree l.mask l.place l.first;
  below : l.state < 2 ^ l.degree;
  small : (i : ℕ) → i < 32 → slice_index l.rows i < 2 ^ l.place;
  lanes : (i t : ℕ) → i < 32 → t < l.place → lane t (slice_index l.rows i) ≡ lane i (state_on l.degree l.mask t l.first);
}
