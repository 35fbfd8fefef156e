use Rattle.std.proofs.Common.{◌≡◌, ◌-◌, length, fold}
use Rattle.std.specs.List.{range_with_len}
use Rattle.bb_targets.specs.Marks.{with_mark}
use Rattle.bb_targets.proofs.marks.mark_bits.Given as goal

abbrev pub invariant-bits : goal.invariant-bits
invariant-bits l = record {
  long : length l.marks ≡ length l.fn.marks;
  same : fold with_mark (record { marks = l.marks; least = l.least }) (range_with_len l.bit (l.end - l.bit)) ≡ fold with_mark (record { marks = l.fn.marks; least = l.least }) (range_with_len l.first (l.end - l.first));
}
