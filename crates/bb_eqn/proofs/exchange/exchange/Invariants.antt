use Rattle.std.proofs.Common.{◌≡◌, ◌<◌, ℕ, length, slice_index}
use Rattle.bb_eqn.specs.Lanes.{lane}
use Rattle.bb_eqn.specs.Transposed.{exchanged_bit}
use Rattle.bb_eqn.proofs.exchange.exchange.Given as goal

abbrev pub invariant-loop-row : goal.invariant-loop-row
invariant-loop-row l = record {
  long : length l.block ≡ 16;
  done : (row c : ℕ) → row < l.row → c < 64 → lane c (slice_index l.block row) ≡ exchanged_bit l.step l.initial.block row c;
}
