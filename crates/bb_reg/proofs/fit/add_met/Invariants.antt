use Rattle.std.proofs.Common.{◌≡◌, ◌||◌, ℕ, take}
use Rattle.bb_reg.specs.Fitting.{holds, is_met}
use Rattle.bb_reg.proofs.fit.add_met.Given as goal

abbrev pub invariant-nets : goal.invariant-nets
invariant-nets l = (g : ℕ) → holds l.met.keys g ≡ (holds l.fn.met.keys g || is_met l.index l.homes (take l.net-index l.nets) g)
