-- The first and the least number with a property.
use Rattle.std.specs.Prelude.{ℕ, ◌<◌, ◌≤◌}

-- n is the first number below the count that has P
pub record IsFirst (P : ℕ → Type 0) (count n : ℕ) : Type 0 where
  pub within : n < count
  pub here : P n
  pub before : (m : ℕ) → m < n → P m → ⊥

-- n is the least number that has P
pub record IsLeast (P : ℕ → Type 0) (n : ℕ) : Type 0 where
  pub holds : P n
  pub least : (m : ℕ) → P m → n ≤ m
