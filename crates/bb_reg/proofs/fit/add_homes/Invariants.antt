use Rattle.std.proofs.Common.{◌≡◌, ◌||◌, ℕ, take}
use Rattle.std.specs.List.{list_any}
use Rattle.bb_reg.specs.Fitting.{holds, is_home}
use Rattle.bb_reg.proofs.fit.add_homes.Given as goal

abbrev pub invariant-numbers : goal.invariant-numbers
invariant-numbers l = (g : ℕ) → holds l.met.keys g ≡ (holds l.fn.met.keys g || list_any (is_home l.homes g) (take l.number-index l.numbers))
