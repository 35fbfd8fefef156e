use Rattle.std.proofs.Common.{◌≡◌, ◌-◌, ◌&&◌, length, slice_index, nat_eq, nat_lt}
use Rattle.std.specs.Prelude.{find}
use Rattle.std.specs.List.{range_with_len}
use Rattle.bb_drive.proofs.drivers.first_undriven.Given as goal

abbrev pub invariant-loop-bit : goal.invariant-loop-bit
invariant-loop-bit l =
    find (λ m. nat_eq (slice_index l.drivers m) 0 && nat_lt 0 (slice_index l.readers m)) (range_with_len l.bit (length l.drivers - l.bit))
    ≡ find (λ m. nat_eq (slice_index l.drivers m) 0 && nat_lt 0 (slice_index l.readers m)) (range_with_len 0 (length l.drivers))
