-- Marks on the numbers in some spans.
use Rattle.std.specs.Prelude.{ℕ, ◌+◌, ◌^◌, ◌⊎◌, List, [], ◌∷◌, length}
use Rattle.bb_base.specs.Span.{IsInSpan}

-- how many numbers some spans have together at most: 2^n for a list of n rows
abbrev pub sizes : List (List ℕ) → ℕ
sizes [] = 0
sizes (rows ∷ spans) = 2 ^ length rows + sizes spans

-- in the span of one of the lists at least
abbrev pub IsInside : List (List ℕ) → ℕ → Type 0
IsInside [] v = ⊥
IsInside (rows ∷ spans) v = IsInSpan rows v ⊎ IsInside spans v
