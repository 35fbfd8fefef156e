use Rattle.std.proofs.Common.{◌≡◌, ◌<◌, ℕ, length, take}
use Rattle.bb_plan.specs.Clashes.{feeders_at, feeders_in}
use Rattle.bb_plan.proofs.conflicts.feeders_of.Given as goal

abbrev pub invariant-lines : goal.invariant-lines
invariant-lines l = record {
  long : length l.feeders.items ≡ length l.registers;
  each : (r : ℕ) → r < length l.registers → feeders_at l.feeders.items r ≡ feeders_in l.links (take l.line-index l.lines) r;
}
