use Rattle.std.proofs.Common.{◌≡◌, ◌<◌, ◌≤◌, drop}
use Rattle.bb_base.specs.Variables.{bit_of, bit_count}
use Rattle.bb_drive.specs.Nets.{bit_name, bit_text}
use Rattle.bb_targets.proofs.fault.bit_text.Given as goal

abbrev pub invariant-variables : goal.invariant-variables
invariant-variables l = record {
  within : l.place ≤ l.bit;
  inside : l.place < bit_count (drop l.index l.table.entries);
  same : bit_of l.table.entries (bit_name l.index (drop l.index l.table.entries) l.place) ≡ bit_text l.table.entries l.bit;
}
