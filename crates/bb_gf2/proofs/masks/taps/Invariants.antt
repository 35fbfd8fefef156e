use Rattle.std.proofs.Common.{ℕ, ◌<◌}
use Rattle.bb_terms.specs.Register.{IsFullMask}
use Rattle.bb_gf2.proofs.masks.taps.Given as goal

-- no mask so far has full period
abbrev pub invariant-loop-mask : goal.invariant-loop-mask
invariant-loop-mask l = (mask : ℕ) → mask < l.mask → IsFullMask l.degree mask → ⊥
