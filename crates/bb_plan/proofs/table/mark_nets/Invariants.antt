use Rattle.std.proofs.Common.{◌≡◌, ◌||◌, ℕ, ◌<◌, false, length, take, get_or, nat_eq}
use Rattle.std.specs.List.{list_any}
use Rattle.bb_plan.proofs.table.mark_nets.Given as goal

abbrev pub invariant-nets : goal.invariant-nets
invariant-nets l = record {
  long : length l.marks ≡ length l.initial.marks;
  each : (net : ℕ) → net < length l.initial.marks → get_or l.marks net false ≡ (get_or l.initial.marks net false || list_any (nat_eq net) (take l.net-index l.nets));
}
