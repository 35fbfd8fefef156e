-- The walk of a complete register from 0.
use Rattle.std.specs.Prelude.{◌≡◌, ◌≢◌, ℕ, ◌<◌, ◌^◌}
use Rattle.bb_terms.specs.Register.{IsDegree, IsMask, state_after}

-- the walk isn't back at 0 before so many steps
abbrev pub IsAway : ℕ → ℕ → ℕ → Type 0
IsAway degree mask steps = (t : ℕ) → 0 < t → t < steps → state_after degree mask t ≢ 0

-- the walk first returns to 0 after so many steps
pub record IsFirstReturn (degree mask steps : ℕ) : Type 0 where
  pub some : 0 < steps
  pub back : state_after degree mask steps ≡ 0
  pub away : IsAway degree mask steps

-- a degree with one of its masks
pub record Taps : Type 0 where
  pub degree : ℕ
  pub mask : ℕ

-- how a full register is kept: its walk is away from 0 for 2^degree steps
pub record IsFullWalk (taps : Taps) : Type 0 where
  pub degree_fits : IsDegree taps.degree
  pub mask_fits : IsMask taps.degree taps.mask
  pub away : IsAway taps.degree taps.mask (2 ^ taps.degree)
