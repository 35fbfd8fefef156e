use Rattle.std.proofs.Common.{◌≡◌, ◌||◌, ℕ, ◌<◌, false, length, take, get_or}
use Rattle.std.specs.List.{list_any}
use Rattle.bb_terms.specs.Plan.{lists_register}
use Rattle.bb_plan.proofs.compacting.mark_sessions.Given as goal

abbrev pub invariant-sessions : goal.invariant-sessions
invariant-sessions l = record {
  long : length l.marks ≡ length l.initial.marks;
  each : (r : ℕ) → r < length l.initial.marks → get_or l.marks r false ≡ (get_or l.initial.marks r false || list_any (lists_register r) (take l.session-index l.sessions));
}
