use Rattle.std.proofs.Common.{◌≡◌, ℕ, ◌<◌, ◌≤◌, ◌+◌, length, drop, slice_get, Some}
use Rattle.bb_drive.specs.NamedOf.{place_among}
use Rattle.bb_assemble.proofs.numbers.put_numbers.Given as goal

abbrev pub invariant-bits : goal.invariant-bits
invariant-bits l = record {
  within : l.index ≤ length l.kept;
  each : (b : ℕ) → b < length l.numbers → slice_get l.numbers b ≡ Some (place_among (drop l.index l.kept) b + l.index);
}

abbrev pub decreases-bits : goal.decreases-bits
decreases-bits l = l.index
