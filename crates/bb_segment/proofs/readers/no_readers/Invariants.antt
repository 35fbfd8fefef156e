use Rattle.std.proofs.Common.{◌≡◌, [], ℕ, length}
use Rattle.bb_segment.specs.Cutting.{table_entry}
use Rattle.bb_segment.proofs.readers.no_readers.Given as goal

abbrev pub invariant-nets : goal.invariant-nets
invariant-nets l = record {
  long : length l.readers.items ≡ l.counter;
  none : (net : ℕ) → table_entry l.readers.items net ≡ [];
}
