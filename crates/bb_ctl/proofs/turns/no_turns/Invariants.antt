use Rattle.std.proofs.Common.{◌≡◌, [], ℕ, length}
use Rattle.bb_ctl.specs.Turns.{turns_at}
use Rattle.bb_ctl.proofs.turns.no_turns.Given as goal

abbrev pub invariant-registers : goal.invariant-registers
invariant-registers l = record {
  long : length l.turns.items ≡ l.counter;
  none : (r : ℕ) → turns_at l.turns.items r ≡ [];
}
