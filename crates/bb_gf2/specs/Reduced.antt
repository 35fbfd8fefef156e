-- How a basis is stored: no member of the span of the rows before a row lowers it.
use Rattle.std.specs.Prelude.{ℕ, ◌<◌, ◌≤◌, ◌^◌, List, length, take, slice_index, bit_xor}
use Rattle.bb_base.specs.Span.{combined}

-- a row that is not 0, has 32 bits, and is the least that it makes with those before it
pub record IsNewRow (before : List ℕ) (row : ℕ) : Type 0 where
  pub nonzero : 0 < row
  pub fits : row < 2 ^ 32
  pub least : (mask : ℕ) → row ≤ bit_xor row (combined mask before)

-- each row is new to those before it
abbrev pub IsReduced : List ℕ → Type 0
IsReduced rows = (place : ℕ) → place < length rows → IsNewRow (take place rows) (slice_index rows place)
