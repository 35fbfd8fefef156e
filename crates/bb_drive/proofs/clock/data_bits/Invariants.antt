use Rattle.std.proofs.Common.{◌≡◌, ◌<◌, ℕ, length}
use Rattle.bb_drive.specs.Origins.{entry_at, is_marked, is_data_label}
use Rattle.bb_drive.proofs.clock.data_bits.Given as goal

abbrev pub invariant-labels : goal.invariant-labels
invariant-labels l = record {
  long : length l.bits.items ≡ l.label-index;
  each : (b : ℕ) → b < l.label-index → is_marked l.bits.items b ≡ is_data_label l.clock (entry_at l.labels b);
}
