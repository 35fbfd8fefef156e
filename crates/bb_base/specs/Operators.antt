-- What the operators of gates give.
use Rattle.std.specs.Prelude.{◌≡◌, ℕ, ◌<◌, Bool, true, false, not, List, [], ◌∷◌}
use Rattle.bb_base.specs.Booleans.{all_true, some_true, parity_of_bits}
use Rattle.bb_base.specs.declared.operator.Op.{Op}
use Rattle.bb_base.specs.declared.operator.Op.TheVariants.{And, Nand, Or, Nor, Xor, Xnor, Not, Buf, Zero, One}

-- the first bit
abbrev pub first_bit : List Bool → Bool
first_bit [] = false
first_bit (b ∷ bs) = b

-- what an operator gives on the bits of its inputs
abbrev pub op_gives : Op → List Bool → Bool
op_gives And bs = all_true bs
op_gives Nand bs = not (all_true bs)
op_gives Or bs = some_true bs
op_gives Nor bs = not (some_true bs)
op_gives Xor bs = parity_of_bits bs
op_gives Xnor bs = not (parity_of_bits bs)
op_gives Not bs = not (first_bit bs)
op_gives Buf bs = first_bit bs
op_gives Zero bs = false
op_gives One bs = true

-- the numbers of inputs that an operator takes
abbrev pub IsArity : Op → ℕ → Type 0
IsArity Not n = n ≡ 1
IsArity Buf n = n ≡ 1
IsArity Zero n = n ≡ 0
IsArity One n = n ≡ 0
IsArity And n = 0 < n
IsArity Nand n = 0 < n
IsArity Or n = 0 < n
IsArity Nor n = 0 < n
IsArity Xor n = 0 < n
IsArity Xnor n = 0 < n
