use Rattle.std.proofs.Common.{◌≡◌, ◌<◌, ◌≤◌, ℕ, Some, slice_get, slice_index}
use Rattle.bb_sign.specs.Compactors.{CompactorValue, AreHeld, compacted}
use Rattle.bb_sign.proofs.compactors.compact_all.Given as goal

abbrev pub invariant-compactors : goal.invariant-compactors
invariant-compactors l = record {
  held : AreHeld l.compactors l.held;
  so_far : (r : ℕ) (k : CompactorValue) → r < l.place → slice_get l.compactors r ≡ Some k → slice_index l.held r ≡ compacted l.netlist.gates l.values k l.count (slice_index l.initial.held r);
  ahead : (r : ℕ) → l.place ≤ r → slice_index l.held r ≡ slice_index l.initial.held r;
}
