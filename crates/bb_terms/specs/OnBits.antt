-- The complete register on lists of bits, lowest first. One shift serves its step, the signature register's and an
-- unloading chain's.
use Rattle.std.specs.Prelude.{ℕ, zero, suc, Bool, true, false, not, ◌&&◌, List, [], ◌∷◌}
use Rattle.bb_base.specs.Booleans.{xor, some_true}
use Rattle.bb_base.specs.Parity.{code_of_bits}

-- the items one place on, behind a new first one; the last falls out
abbrev pub shifted : {X : Type 0} → X → List X → List X
shifted x [] = []
shifted x (y ∷ ys) = x ∷ shifted y ys

-- the last item, or x where there is none
abbrev pub last_of : {X : Type 0} → X → List X → X
last_of x [] = x
last_of x (y ∷ ys) = last_of y ys

-- all items but the last
abbrev pub front : {X : Type 0} → List X → List X
front [] = []
front (x ∷ xs) = shifted x xs

-- k bits 0
abbrev pub zeros : ℕ → List Bool
zeros zero = []
zeros (suc k) = false ∷ zeros k

-- the bit that a state takes in
abbrev pub feedback_bit : ℕ → List Bool → Bool
feedback_bit mask xs = xor (code_of_bits mask xs) (not (some_true (front xs)))

-- the next state
abbrev pub next_bits : ℕ → List Bool → List Bool
next_bits mask xs = shifted (feedback_bit mask xs) xs

-- the state of k bits after t steps from 0
abbrev pub bits_after : ℕ → ℕ → ℕ → List Bool
bits_after k mask zero = zeros k
bits_after k mask (suc t) = next_bits mask (bits_after k mask t)

-- the state before 0 in a full walk: all bits but the last are 0, and the last is 1
abbrev pub at_last : List Bool → Bool
at_last xs = last_of true xs && not (some_true (front xs))
