-- Numbers as lists of bits, the lowest first.
use Rattle.std.specs.Prelude.{ℕ, ◌+◌, ◌*◌, ◌/◌, ◌%◌, ◌==◌, zero, suc, Bool, List, [], ◌∷◌, if◌then◌else◌}

-- the lowest k bits of a number
abbrev pub bits : ℕ → ℕ → List Bool
bits zero x = []
bits (suc k) x = (x % 2 == 1) ∷ bits k (x / 2)

-- the number of these bits
abbrev pub from_bits : List Bool → ℕ
from_bits [] = 0
from_bits (b ∷ bs) = (if b then 1 else 0) + 2 * from_bits bs

-- the items at whose places a mask has a 1
abbrev pub picked : {X : Type 0} → ℕ → List X → List X
picked mask [] = []
picked mask (x ∷ xs) = if mask % 2 == 1 then x ∷ picked (mask / 2) xs else picked (mask / 2) xs
