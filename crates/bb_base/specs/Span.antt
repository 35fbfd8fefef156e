-- The span of a list of numbers under exclusive or, and independence.
use Rattle.std.specs.Prelude.{◌≡◌, ℕ, ◌<◌, ◌^◌, List, [], ◌∷◌, length, bit_xor}
use Rattle.bb_base.specs.Bits.{picked}

-- the exclusive or of numbers
abbrev pub xor_of : List ℕ → ℕ
xor_of [] = 0
xor_of (x ∷ xs) = bit_xor x (xor_of xs)

-- the exclusive or of the rows that a mask chooses
abbrev pub combined : ℕ → List ℕ → ℕ
combined mask rows = xor_of (picked mask rows)

-- a member of the span: the exclusive or of some of the rows
abbrev pub IsInSpan : List ℕ → ℕ → Type 0
IsInSpan rows v = (mask : ℕ) × (combined mask rows ≡ v)

-- a number of the form v xor a member of the span
abbrev pub IsInCoset : List ℕ → ℕ → ℕ → Type 0
IsInCoset rows v w = (mask : ℕ) × (bit_xor v (combined mask rows) ≡ w)

-- a nonempty set of rows, as a mask, whose exclusive or is 0
pub record IsDependence (rows : List ℕ) (mask : ℕ) : Type 0 where
  pub nonempty : 0 < mask
  pub within : mask < 2 ^ length rows
  pub cancels : combined mask rows ≡ 0

-- no nonempty set of rows has the exclusive or 0
abbrev pub IsIndependent : List ℕ → Type 0
IsIndependent rows = (mask : ℕ) → IsDependence rows mask → ⊥
