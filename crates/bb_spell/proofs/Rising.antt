-- Numbers that rise.
use Rattle.std.proofs.Common.{ℕ, ◌+◌, ◌<◌, zero, suc, List, [], ◌∷◌, arith}
use Rattle.std.specs.List.{AllByRecursion, range_with_len}

-- numbers that rise
abbrev pub Rising : List ℕ → Type 0
Rising [] = Unit {0}
Rising (x ∷ xs) = AllByRecursion (λ m. x < m) xs × Rising xs

range_above : (low from n : ℕ) → low < from → AllByRecursion (λ m. low < m) (range_with_len from n)
range_above low from zero h = tt
range_above low from (suc n) h = (h, range_above low (from + 1) n (omega arith))

pub range_rises : (from n : ℕ) → Rising (range_with_len from n)
range_rises from zero = tt
range_rises from (suc n) = (range_above from (from + 1) n (omega arith), range_rises (from + 1) n)
