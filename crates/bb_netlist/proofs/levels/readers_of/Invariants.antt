use Rattle.std.proofs.Common.{◌≡◌, ℕ, [], length}
use Rattle.std.specs.Prelude.{slice_index_or}
use Rattle.bb_netlist.proofs.levels.readers_of.Given as goal

abbrev pub invariant-nets : goal.invariant-nets
invariant-nets l = record {
  long : length l.readers.items ≡ l.counter;
  each : (n : ℕ) → slice_index_or l.readers.items n [] ≡ [];
}
