-- Lists of bits: their conjunction, disjunction and parity.
use Rattle.std.specs.Prelude.{Bool, true, false, not, ◌&&◌, ◌||◌, List, [], ◌∷◌}

-- one of two bits and not both: the exclusive or
abbrev pub xor : Bool → Bool → Bool
xor true b = not b
xor false b = b

-- every bit is 1
abbrev pub all_true : List Bool → Bool
all_true [] = true
all_true (b ∷ bs) = b && all_true bs

-- some bit is 1
abbrev pub some_true : List Bool → Bool
some_true [] = false
some_true (b ∷ bs) = b || some_true bs

-- an odd number of bits is 1: their exclusive or
abbrev pub parity_of_bits : List Bool → Bool
parity_of_bits [] = false
parity_of_bits (b ∷ bs) = xor b (parity_of_bits bs)
