use Rattle.std.proofs.Common.{◌≡◌, ◌||◌, ℕ, length, take}
use Rattle.bb_terms.specs.Support.{stop_at}
use Rattle.bb_plan.specs.Chain.{has_cut}
use Rattle.bb_plan.proofs.stops.add_cuts.Given as goal

abbrev pub invariant-links : goal.invariant-links
invariant-links l = record {
  long : length l.stops ≡ length l.initial.stops;
  cut : (net : ℕ) → stop_at l.stops net ≡ (stop_at l.initial.stops net || has_cut (take l.link-index l.links) net);
}
