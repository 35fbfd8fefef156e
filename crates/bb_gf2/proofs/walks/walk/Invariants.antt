use Rattle.std.proofs.Common.{◌≡◌, ◌-◌, ℕ}
use Rattle.bb_terms.specs.Register.{state_after}
use Rattle.bb_terms.specs.Walk.{IsAway}
use Rattle.bb_gf2.proofs.walks.walk.Given as goal

-- the walk has gone so far, and wasn't back before
pub record HasWalked (degree mask x steps : ℕ) : Type 0 where
  pub at : x ≡ state_after degree mask (steps - 1)
  pub away : IsAway degree mask steps

abbrev pub invariant-loop-steps : goal.invariant-loop-steps
invariant-loop-steps l = HasWalked l.degree l.mask l.x l.steps
