use Rattle.std.proofs.Common.{◌≡◌, ◌-◌, ◌||◌, ◌++◌, length, slice_index, nat_lt}
use Rattle.std.specs.Prelude.{filter}
use Rattle.std.specs.List.{range_with_len}
use Rattle.bb_drive.proofs.drivers.used_bits.Given as goal

abbrev pub invariant-loop-bit : goal.invariant-loop-bit
invariant-loop-bit l =
    l.bits.items ++ filter (λ m. nat_lt 0 (slice_index l.drivers m) || nat_lt 0 (slice_index l.readers m)) (range_with_len l.bit (length l.drivers - l.bit))
    ≡ filter (λ m. nat_lt 0 (slice_index l.drivers m) || nat_lt 0 (slice_index l.readers m)) (range_with_len 0 (length l.drivers))
