-- The signature: what a signature register (a MISR) holds after it took in its lines, cycle after cycle.
use Rattle.std.specs.Prelude.{ℕ, ◌+◌, ◌*◌, ◌%◌, ◌^◌, Bool, List, [], ◌∷◌, fold, bit_xor, if◌then◌else◌}
use Rattle.bb_base.specs.Booleans.{xor}
use Rattle.bb_base.specs.Parity.{code_bit, code_of_bits}
use Rattle.bb_terms.specs.OnBits.{shifted, zeros}

-- the exclusive or bit by bit
abbrev pub xor_each : List Bool → List Bool → List Bool
xor_each [] bs = []
xor_each (a ∷ rest) [] = []
xor_each (a ∷ rest) (b ∷ bs) = xor a b ∷ xor_each rest bs

-- one cycle: each cell takes its line and the cell before it, and the first one the parity of the tapped cells
abbrev pub signature_step : ℕ → List Bool → List Bool → List Bool
signature_step mask cells lines = xor_each lines (shifted (code_of_bits mask cells) cells)

-- the signature of a register from all 0, given its lines in each cycle
abbrev pub signature : ℕ → ℕ → List (List Bool) → List Bool
signature length mask cycles = fold (signature_step mask) (zeros length) cycles

-- two registers' lines, cycle by cycle
abbrev pub xor_cycles : List (List Bool) → List (List Bool) → List (List Bool)
xor_cycles [] ys = []
xor_cycles (x ∷ xs) [] = []
xor_cycles (x ∷ xs) (y ∷ ys) = xor_each x y ∷ xor_cycles xs ys

-- one cycle on numbers, bit i for cell i
abbrev pub next_signature : ℕ → ℕ → ℕ → ℕ → ℕ
next_signature length mask cells lines = bit_xor lines ((2 * cells + (if code_bit mask cells then 1 else 0)) % 2 ^ length)
