use Rattle.std.proofs.Common.{◌≡◌, ◌<◌, ◌&&◌, ◌||◌, ℕ, length}
use Rattle.std.specs.Prelude.{nat_le, nat_lt}
use Rattle.bb_drive.specs.Origins.{is_marked}
use Rattle.bb_drive.proofs.marks.mark_range.Given as goal

abbrev pub invariant-bits : goal.invariant-bits
invariant-bits l = record {
  long : length l.marks ≡ length l.initial.marks;
  each : (b : ℕ) → b < length l.initial.marks → is_marked l.marks b ≡ (is_marked l.initial.marks b || (nat_le l.first b && nat_lt b l.bit));
}
