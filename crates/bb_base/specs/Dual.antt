-- The duals of a list of rows: for each row a vector whose code bit is 1 at that row alone.
use Rattle.std.specs.Prelude.{◌≡◌, ℕ, ◌<◌, ◌==◌, List, length, slice_index}
use Rattle.bb_base.specs.Parity.{code_bit}
use Rattle.bb_base.specs.Firsts.{IsLeast}

-- a dual of the row at a place: the code bit of each row is 1 exactly at that place
abbrev pub IsDual : List ℕ → ℕ → ℕ → Type 0
IsDual rows place d = (other : ℕ) → other < length rows → code_bit (slice_index rows other) d ≡ (other == place)

-- a dual for each row, in the order of the rows
pub record AreDuals (rows duals : List ℕ) : Type 0 where
  pub one_each : length duals ≡ length rows
  pub dual : (place : ℕ) → place < length rows → IsDual rows place (slice_index duals place)

-- the least dual for each row
pub record AreLeastDuals (rows duals : List ℕ) : Type 0 where
  pub one_each : length duals ≡ length rows
  pub least : (place : ℕ) → place < length rows → IsLeast (IsDual rows place) (slice_index duals place)
