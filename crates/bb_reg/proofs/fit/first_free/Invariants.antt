use Rattle.std.proofs.Common.{◌≡◌, ◌++◌, ℕ, true, List}
use Rattle.std.specs.List.{AllByRecursion}
use Rattle.bb_reg.specs.Fitting.{holds}
use Rattle.bb_reg.proofs.fit.first_free.Given as goal

abbrev pub invariant-groups : goal.invariant-groups
invariant-groups l =
    (goal.iterator-groups).can_next l.group-iterator ×
    (goal.iterator-groups).is_finite l.group-iterator ×
    ((before : List ℕ) × (l.open_groups.keys ≡ before ++ l.group-iterator) × AllByRecursion (λ g. holds l.met.keys g ≡ true) before)
