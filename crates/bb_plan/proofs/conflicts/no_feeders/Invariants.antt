use Rattle.std.proofs.Common.{◌≡◌, ℕ, [], length}
use Rattle.bb_plan.specs.Clashes.{feeders_at}
use Rattle.bb_plan.proofs.conflicts.no_feeders.Given as goal

abbrev pub invariant-registers : goal.invariant-registers
invariant-registers l = record {
  long : length l.feeders.items ≡ l.counter;
  none : (r : ℕ) → feeders_at l.feeders.items r ≡ [];
}
