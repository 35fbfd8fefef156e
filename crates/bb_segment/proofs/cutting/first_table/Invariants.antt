use Rattle.std.proofs.Common.{◌≡◌, ◌<◌, ◌∷◌, [], ℕ, length}
use Rattle.bb_segment.specs.Cutting.{table_entry}
use Rattle.bb_segment.proofs.cutting.first_table.Given as goal

abbrev pub invariant-nets : goal.invariant-nets
invariant-nets l = record {
  long : length l.table.items ≡ l.net;
  own : (n : ℕ) → n < l.net → table_entry l.table.items n ≡ n ∷ [];
}
