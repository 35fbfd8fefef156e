use Rattle.std.proofs.Common.{◌≡◌, ◌<◌, ◌≤◌, ℕ, length, drop}
use Rattle.bb_drive.specs.Clock.{copied_net}
use Rattle.bb_drive.specs.Origins.{entry_at}
use Rattle.bb_drive.proofs.origins.note_copies.Given as goal

abbrev pub invariant-gates : goal.invariant-gates
invariant-gates l = record {
  few : l.count ≤ length l.gates;
  long : length l.backs ≡ length l.initial.backs;
  each : (b : ℕ) → b < length l.initial.backs → entry_at l.backs b ≡ copied_net (drop l.count l.gates) b;
}

abbrev pub decreases-gates : goal.decreases-gates
decreases-gates l = l.count
