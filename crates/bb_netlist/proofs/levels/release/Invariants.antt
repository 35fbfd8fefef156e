use Rattle.std.proofs.Common.{◌≡◌, ◌+◌, ◌==◌, ◌&&◌, not, ℕ, length, take, slice_index}
use Rattle.std.specs.Prelude.{if◌then◌else◌}
use Rattle.bb_base.specs.Net.{times}
use Rattle.bb_netlist.proofs.levels.release.Given as goal

abbrev pub invariant-readers : goal.invariant-readers
invariant-readers l = record {
  long : length l.waits ≡ length l.initial.waits;
  lower : (h : ℕ) → slice_index l.waits h + times h (take l.reader-index l.readers) ≡ slice_index l.initial.waits h;
  ready : (h : ℕ) → times h l.ready.items ≡ times h l.initial.ready.items + (if slice_index l.waits h == 0 && not (slice_index l.initial.waits h == 0) then 1 else 0);
}
