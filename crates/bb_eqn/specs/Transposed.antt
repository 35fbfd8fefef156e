-- Blocks of 16 rows and 16 lanes, transposed in rounds. Public contracts cite `IsTransposed` alone.
use Rattle.std.specs.Prelude.{◌≡◌, ℕ, ◌+◌, ◌-◌, ◌*◌, ◌/◌, ◌%◌, ◌<◌, ◌==◌, Bool, List, slice_index, bit_and}
use Rattle.bb_eqn.specs.Lanes.{lane}

-- the step of a round and the mask of its even parts: lanes are counted off in parts as long as the step
pub record IsRound (step mask : ℕ) : Type 0 where
  pub some : 0 < step
  pub few : step < 16
  pub test : (row : ℕ) → bit_and row step ≡ row / step % 2 * step
  pub inside : (row : ℕ) → row < 16 → row / step % 2 ≡ 0 → row + step < 16
  pub even : (c : ℕ) → c < 64 → lane c mask ≡ (c / step % 2 == 0)

-- a number with another one's bit at a step
abbrev pub swapped : ℕ → ℕ → ℕ → ℕ
swapped step a b = a - a / step % 2 * step + b / step % 2 * step

-- the bit that a round brings to a row and a lane
abbrev pub exchanged_bit : ℕ → List ℕ → ℕ → ℕ → Bool
exchanged_bit step block row c = lane (swapped step c row) (slice_index block (swapped step row c))

-- rows after a round
abbrev pub IsExchanged : ℕ → List ℕ → List ℕ → Type 0
IsExchanged step old new = (row c : ℕ) → row < 16 → c < 64 → lane c (slice_index new row) ≡ exchanged_bit step old row c

-- four blocks side by side, each with its rows for its lanes
abbrev pub IsTransposed : List ℕ → List ℕ → Type 0
IsTransposed old new = (a b group : ℕ) → a < 16 → b < 16 → group < 4 → lane (16 * group + a) (slice_index new b) ≡ lane (16 * group + b) (slice_index old a)
