use Rattle.std.proofs.Common.{◌≡◌, ◌⊎◌, ℕ, length, take, Contains}
use Rattle.bb_segment.specs.Cutting.{table_entry}
use Rattle.bb_segment.proofs.readers.note_reads.Given as goal

abbrev pub invariant-nets : goal.invariant-nets
invariant-nets l = record {
  long : length l.readers ≡ length l.fn.readers;
  kept : (net p : ℕ) → Contains (table_entry l.fn.readers net) p → Contains (table_entry l.readers net) p;
  noted : (net : ℕ) → Contains (take l.net-index l.nets) net → Contains (table_entry l.readers net) l.place;
  only : (net p : ℕ) → Contains (table_entry l.readers net) p → Contains (table_entry l.fn.readers net) p ⊎ ((p ≡ l.place) × Contains (take l.net-index l.nets) net);
}
