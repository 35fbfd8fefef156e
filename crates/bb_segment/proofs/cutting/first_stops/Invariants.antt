use Rattle.std.proofs.Common.{◌≡◌, ℕ, length, take}
use Rattle.bb_terms.specs.Support.{stop_at}
use Rattle.bb_terms.specs.Paths.{is_free}
use Rattle.bb_segment.proofs.cutting.first_stops.Given as goal

abbrev pub invariant-gates : goal.invariant-gates
invariant-gates l = record {
  long : length l.stops.items ≡ l.fn.nets;
  free : (net : ℕ) → stop_at l.stops.items net ≡ is_free (take l.gate-index l.gates) net;
}
