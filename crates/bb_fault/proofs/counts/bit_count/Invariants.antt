use Rattle.std.proofs.Common.{◌≡◌, ◌+◌, ◌^◌, ◌<◌, drop}
use Rattle.bb_base.specs.Variables.{bit_count}
use Rattle.bb_fault.specs.Limits.{told_count}
use Rattle.bb_fault.proofs.counts.bit_count.Given as goal

abbrev pub invariant-loop-index : goal.invariant-loop-index
invariant-loop-index l = record {
  fits : l.count < 2 ^ 64;
  all : told_count (l.count + bit_count (drop l.index l.table.entries)) ≡ told_count (bit_count l.table.entries);
}
