use Rattle.std.proofs.Common.{◌≡◌, ◌<◌, ℕ, length, take, slice_index, if◌then◌else◌}
use Rattle.bb_terms.specs.Plan.{lists_register}
use Rattle.bb_plan.proofs.conflicts.stamp.Given as goal

abbrev pub invariant-registers : goal.invariant-registers
invariant-registers l = record {
  long : length l.stamps ≡ length l.initial.stamps;
  each : (r : ℕ) → r < length l.initial.stamps → slice_index l.stamps r ≡ (if lists_register r (take l.register-index l.session) then l.number else slice_index l.initial.stamps r);
}
