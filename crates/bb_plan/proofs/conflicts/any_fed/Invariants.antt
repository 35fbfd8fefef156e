use Rattle.std.proofs.Common.{◌≡◌, ◌==◌, false, take, slice_index}
use Rattle.std.specs.List.{list_any}
use Rattle.bb_plan.specs.Clashes.{feeders_at}
use Rattle.bb_plan.proofs.conflicts.any_fed.Given as goal

abbrev pub invariant-registers : goal.invariant-registers
invariant-registers l = list_any (λ r. list_any (λ q. slice_index l.stamps q == l.number) (feeders_at l.feeders r)) (take l.register-index l.session) ≡ false
