use Rattle.std.proofs.Common.{◌≡◌, ◌<◌, ℕ, true, length, take, Contains, Some, None}
use Rattle.bb_terms.specs.Support.{stop_at}
use Rattle.bb_segment.specs.Cutting.{IsWidest}
use Rattle.bb_segment.proofs.cutting.widest.Given as goal

abbrev pub invariant-nets : goal.invariant-nets
invariant-nets l = record {
  none : l.best ≡ None → (net : ℕ) → Contains (take l.net-index l.nets) net → stop_at l.stops net ≡ true;
  within : (b : ℕ) → l.best ≡ Some b → b < length l.table;
  some : (b : ℕ) → l.best ≡ Some b → IsWidest (stop_at l.stops) l.table (take l.net-index l.nets) b;
}
