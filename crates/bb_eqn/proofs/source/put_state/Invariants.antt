use Rattle.std.proofs.Common.{◌≡◌, ◌<◌, ◌≤◌, ◌+◌, ◌*◌, ◌^◌, ℕ, length, slice_index}
use Rattle.std.specs.Int.{bit_at}
use Rattle.bb_eqn.proofs.source.put_state.Given as goal

abbrev pub invariant-loop-bit : goal.invariant-loop-bit
invariant-loop-bit l = record {
  long : length l.rows ≡ 32;
  done : (i : ℕ) → i < l.bit → slice_index l.rows i ≡ bit_at l.state i * 2 ^ l.place + slice_index l.initial.rows i;
  left : (i : ℕ) → l.bit ≤ i → slice_index l.rows i ≡ slice_index l.initial.rows i;
}
