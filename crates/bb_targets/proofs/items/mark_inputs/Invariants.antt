use Rattle.std.proofs.Common.{◌≡◌, ◌+◌, drop, fold}
use Rattle.bb_base.specs.Variables.{bit_count, is_input}
use Rattle.bb_drive.specs.Nets.{bits_from, input_bits}
use Rattle.bb_targets.specs.Marks.{with_mark}
use Rattle.bb_targets.proofs.items.mark_inputs.Given as goal

abbrev pub invariant-variables : goal.invariant-variables
invariant-variables l = record {
  left : l.first + bit_count (drop l.index l.table.entries) ≡ bit_count l.table.entries;
  same : fold with_mark l.marks (bits_from is_input l.first (drop l.index l.table.entries)) ≡ fold with_mark l.fn.marks (input_bits l.table.entries);
}
