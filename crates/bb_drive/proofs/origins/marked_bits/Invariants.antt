use Rattle.std.proofs.Common.{◌≡◌, ℕ, ◌<◌, All, length, take}
use Rattle.bb_drive.specs.Nets.{has_bit}
use Rattle.bb_drive.specs.Origins.{is_marked}
use Rattle.bb_drive.proofs.origins.marked_bits.Given as goal

abbrev pub invariant-bits : goal.invariant-bits
invariant-bits l = record {
  within : All (λ b. b < length l.marks) l.bits.items;
  each : (b : ℕ) → has_bit l.bits.items b ≡ is_marked (take l.bit l.marks) b;
}
