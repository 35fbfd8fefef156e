use Rattle.std.proofs.Common.{◌≡◌, ◌-◌, length, slice_index, nat_lt}
use Rattle.std.specs.Prelude.{find}
use Rattle.std.specs.List.{range_with_len}
use Rattle.bb_drive.proofs.drivers.first_twice.Given as goal

abbrev pub invariant-loop-bit : goal.invariant-loop-bit
invariant-loop-bit l =
    find (λ m. nat_lt 1 (slice_index l.drivers m)) (range_with_len l.bit (length l.drivers - l.bit)) ≡ find (λ m. nat_lt 1 (slice_index l.drivers m)) (range_with_len 0 (length l.drivers))
