-- the exclusive or of bits
use Rattle.std.proofs.Common.{◌≡◌, Bool, true, false, refl, sym, ap, ◌∙◌}
use Rattle.bb_base.specs.Booleans.{xor}

pub xor_assoc_bits : (a b c : Bool) → xor (xor a b) c ≡ xor a (xor b c)
xor_assoc_bits true true true = refl
xor_assoc_bits true true false = refl
xor_assoc_bits true false true = refl
xor_assoc_bits true false false = refl
xor_assoc_bits false b c = refl

pub xor_comm_bits : (a b : Bool) → xor a b ≡ xor b a
xor_comm_bits true true = refl
xor_comm_bits true false = refl
xor_comm_bits false true = refl
xor_comm_bits false false = refl

pub xor_false_bits : (a : Bool) → xor a false ≡ a
xor_false_bits true = refl
xor_false_bits false = refl

pub xor_self_bits : (a : Bool) → xor a a ≡ false
xor_self_bits true = refl
xor_self_bits false = refl

-- two sums at once
pub swap_xor : (a b c d : Bool) → xor (xor a b) (xor c d) ≡ xor (xor a c) (xor b d)
swap_xor a b c d =
    xor_assoc_bits a b (xor c d) ∙ ap (xor a) (sym (xor_assoc_bits b c d) ∙ ap (λ e. xor e d) (xor_comm_bits b c) ∙ xor_assoc_bits c b d)
    ∙ sym (xor_assoc_bits a c (xor b d))
