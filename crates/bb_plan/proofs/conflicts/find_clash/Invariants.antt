use Rattle.std.proofs.Common.{◌≡◌, ◌<◌, ◌≤◌, ℕ, List, false, length, Some, slice_get, slice_index}
use Rattle.bb_plan.specs.Clashes.{session_clashes}
use Rattle.bb_plan.proofs.conflicts.find_clash.Given as goal

abbrev pub invariant-sessions : goal.invariant-sessions
invariant-sessions l = record {
  long : length l.stamps ≡ length l.feeders;
  low : (r : ℕ) → slice_index l.stamps r ≤ l.place;
  before : (s : ℕ) (session : List ℕ) → s < l.place → slice_get l.sessions s ≡ Some session → session_clashes l.feeders session ≡ false;
}
