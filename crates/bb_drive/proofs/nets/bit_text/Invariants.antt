use Rattle.std.proofs.Common.{◌≡◌, ◌<◌, ◌≤◌, drop}
use Rattle.bb_base.specs.Variables.{bit_of, bit_count}
use Rattle.bb_drive.specs.Nets.{bit_name, bit_text}
use Rattle.bb_drive.proofs.nets.bit_text.Given as goal

abbrev pub invariant-loop-index : goal.invariant-loop-index
invariant-loop-index l = record {
  within : l.place ≤ l.bit;
  inside : l.place < bit_count (drop l.index l.vars.entries);
  same : bit_of l.vars.entries (bit_name l.index (drop l.index l.vars.entries) l.place) ≡ bit_text l.vars.entries l.bit;
}
