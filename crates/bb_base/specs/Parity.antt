-- Code bits: the parity of what a state and a column have in common.
use Rattle.std.specs.Prelude.{ℕ, ◌%◌, ◌==◌, Bool, List, map, bit_and, count_ones}
use Rattle.bb_base.specs.Booleans.{parity_of_bits}
use Rattle.bb_base.specs.Bits.{picked}

-- 1 where a number has an odd number of ones
abbrev pub parity : ℕ → Bool
parity v = count_ones v % 2 == 1

-- the code bit that a column gives at a state
abbrev pub code_bit : ℕ → ℕ → Bool
code_bit column state = parity (bit_and column state)

-- the same at a state that is a list of bits, lowest first
abbrev pub code_of_bits : ℕ → List Bool → Bool
code_of_bits column xs = parity_of_bits (picked column xs)

-- the code bits that columns give at a state
abbrev pub code_word : List ℕ → ℕ → List Bool
code_word columns state = map (λ column. code_bit column state) columns
