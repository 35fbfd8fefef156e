use Rattle.std.proofs.Common.{◌≡◌, ◌<◌, ℕ, ◌||◌, length, drop}
use Rattle.bb_drive.specs.Nets.{bits_from, has_bit}
use Rattle.bb_drive.specs.Tallies.{is_role}
use Rattle.bb_drive.specs.Origins.{is_marked}
use Rattle.bb_drive.proofs.marks.mark_role.Given as goal

abbrev pub invariant-vars : goal.invariant-vars
invariant-vars l = record {
  long : length l.marks ≡ length l.initial.marks;
  each : (b : ℕ) → b < length l.initial.marks
      → (is_marked l.marks b || has_bit (bits_from (is_role l.role) l.first (drop l.index l.vars.entries)) b)
      ≡ (is_marked l.initial.marks b || has_bit (bits_from (is_role l.role) 0 l.vars.entries) b);
}
