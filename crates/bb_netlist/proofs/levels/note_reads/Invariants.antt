use Rattle.std.proofs.Common.{◌≡◌, ◌+◌, ◌<◌, ◌==◌, ℕ, [], length, take}
use Rattle.std.specs.Prelude.{if◌then◌else◌, slice_index_or}
use Rattle.bb_base.specs.Net.{times}
use Rattle.bb_netlist.proofs.levels.note_reads.Given as goal

abbrev pub invariant-loop-net : goal.invariant-loop-net
invariant-loop-net l = record {
  long : length l.readers ≡ length l.initial.readers;
  each : (n h : ℕ) → n < length l.initial.readers
      → times h (slice_index_or l.readers n []) ≡ times h (slice_index_or l.initial.readers n []) + (if h == l.number then times n (take l.net-index l.nets) else 0);
}
