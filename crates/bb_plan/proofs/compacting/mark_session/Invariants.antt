use Rattle.std.proofs.Common.{◌≡◌, ◌||◌, ℕ, ◌<◌, false, length, take, get_or}
use Rattle.bb_terms.specs.Plan.{lists_register}
use Rattle.bb_plan.proofs.compacting.mark_session.Given as goal

abbrev pub invariant-listed : goal.invariant-listed
invariant-listed l = record {
  long : length l.marks ≡ length l.initial.marks;
  each : (r : ℕ) → r < length l.initial.marks → get_or l.marks r false ≡ (get_or l.initial.marks r false || lists_register r (take l.number-index l.compact));
}
