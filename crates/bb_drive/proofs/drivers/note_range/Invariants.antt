use Rattle.std.proofs.Common.{◌≡◌, ◌-◌, fold}
use Rattle.std.specs.List.{range_with_len}
use Rattle.bb_drive.specs.Tallies.{tally}
use Rattle.bb_drive.proofs.drivers.note_range.Given as goal

abbrev pub invariant-loop-bit : goal.invariant-loop-bit
invariant-loop-bit l = fold tally l.counts (range_with_len l.bit (l.end - l.bit)) ≡ fold tally l.fn.counts (range_with_len l.first (l.end - l.first))
