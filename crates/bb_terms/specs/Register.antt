-- The complete register: a linear feedback shift register (LFSR) whose feedback is turned at two states, so that 0 can
-- stand among the others (zero insertion, as in de Bruijn registers).
use Rattle.std.specs.Prelude.{◌≡◌, ℕ, ◌+◌, ◌-◌, ◌*◌, ◌%◌, ◌^◌, ◌<◌, ◌≤◌, ◌==◌, zero, suc, Bool, if◌then◌else◌}
use Rattle.bb_base.specs.Booleans.{xor}
use Rattle.bb_base.specs.Parity.{code_bit}

-- a degree that fits: the register's length
pub record IsDegree (degree : ℕ) : Type 0 where
  pub least : 1 ≤ degree
  pub most : degree ≤ 31

-- a mask of feedback taps: its last tap is the register's last bit
pub record IsMask (degree mask : ℕ) : Type 0 where
  pub last : 2 ^ (degree - 1) ≤ mask
  pub below : mask < 2 ^ degree

-- the bit that a state takes in: the parity of its tapped bits, turned where all its bits but the last are 0
abbrev pub feedback : ℕ → ℕ → ℕ → Bool
feedback degree mask x = xor (code_bit mask x) (x % 2 ^ (degree - 1) == 0)

-- the next state: each bit moves one place up, the last falls out, and the feedback comes in
abbrev pub next_state : ℕ → ℕ → ℕ → ℕ
next_state degree mask x = (2 * x + (if feedback degree mask x then 1 else 0)) % 2 ^ degree

-- the state after t steps from 0
abbrev pub state_after : ℕ → ℕ → ℕ → ℕ
state_after degree mask zero = 0
state_after degree mask (suc t) = next_state degree mask (state_after degree mask t)

-- full period: every state is met before 2^degree steps
abbrev pub IsFullPeriod : ℕ → ℕ → Type 0
IsFullPeriod degree mask = (x : ℕ) → x < 2 ^ degree → (t : ℕ) × (t < 2 ^ degree) × (state_after degree mask t ≡ x)

-- a mask of full period
pub record IsFullMask (degree mask : ℕ) : Type 0 where
  pub mask_fits : IsMask degree mask
  pub full : IsFullPeriod degree mask
