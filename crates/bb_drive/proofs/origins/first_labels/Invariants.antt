use Rattle.std.proofs.Common.{◌≡◌, ℕ, ◌<◌, length, Some, None}
use Rattle.std.specs.Prelude.{if◌then◌else◌}
use Rattle.bb_drive.specs.Origins.{entry_at, is_marked}
use Rattle.bb_drive.proofs.origins.first_labels.Given as goal

abbrev pub invariant-bits : goal.invariant-bits
invariant-bits l = record {
  long : length l.labels.items ≡ l.bit;
  each : (b : ℕ) → b < l.bit → entry_at l.labels.items b ≡ (if is_marked l.roots b then Some b else None);
}
