use Rattle.std.proofs.Common.{◌≡◌, ◌<◌, ℕ, [], length, take}
use Rattle.std.specs.Prelude.{slice_index_or}
use Rattle.bb_base.specs.Net.{times}
use Rattle.bb_base.specs.Levels.{inputs_at}
use Rattle.bb_netlist.proofs.levels.note_gates.Given as goal

abbrev pub invariant-gates : goal.invariant-gates
invariant-gates l = record {
  long : length l.readers ≡ length l.initial.readers;
  each : (n h : ℕ) → n < length l.initial.readers → times h (slice_index_or l.readers n []) ≡ times n (inputs_at (take l.number l.gates) h);
}
