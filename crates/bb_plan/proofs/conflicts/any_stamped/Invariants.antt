use Rattle.std.proofs.Common.{◌≡◌, ◌==◌, false, take, slice_index}
use Rattle.std.specs.List.{list_any}
use Rattle.bb_plan.proofs.conflicts.any_stamped.Given as goal

abbrev pub invariant-registers : goal.invariant-registers
invariant-registers l = list_any (λ r. slice_index l.stamps r == l.number) (take l.register-index l.registers) ≡ false
