use Rattle.std.proofs.Common.{◌≡◌, ◌||◌, ℕ, nat_eq, length, take}
use Rattle.std.specs.List.{list_any}
use Rattle.bb_terms.specs.Support.{stop_at}
use Rattle.bb_reg.proofs.lines.mark_cuts.Given as goal

abbrev pub invariant-cuts : goal.invariant-cuts
invariant-cuts l = record {
  long : length l.stops ≡ length l.fn.stops;
  stops : (net : ℕ) → stop_at l.stops net ≡ (stop_at l.fn.stops net || list_any (nat_eq net) (take l.net-index l.cuts));
}
