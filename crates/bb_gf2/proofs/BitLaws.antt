-- numbers and their bits
use Rattle.std.proofs.Common.{◌≡◌, ℕ, ◌+◌, ◌*◌, ◌/◌, ◌%◌, ◌^◌, ◌<◌, ◌==◌, zero, suc, List, [], ◌∷◌, length, Bool, true, false, ◌&&◌, if◌then◌else◌, refl, sym, ap, ◌∙◌, arith}
use Rattle.std.proofs.lemmas.Bool.Decides.{nat_tests}
use Rattle.std.proofs.Math.Nat.{pow-suc}
use Rattle.bb_base.specs.Booleans.{xor, parity_of_bits}
use Rattle.bb_base.specs.Bits.{bits, from_bits, picked}
use Rattle.bb_base.specs.Parity.{parity, code_bit, code_of_bits}
use Rattle.bb_gf2.proofs.Codes.{low_bit, parity_zero, parity_step, code_step, code_zero_state}
use Rattle.bb_gf2.proofs.Pairing.{from_bits_half, from_bits_low}

pub half_below : (x k : ℕ) → x < 2 ^ suc k → x / 2 < 2 ^ k
half_below x k h = let e : 2 ^ suc k ≡ 2 ^ k * 2 = pow-suc 2 k in omega (arith, h, e)

pub from_bits-bits : (k x : ℕ) → x < 2 ^ k → from_bits (bits k x) ≡ x
from_bits-bits zero x h = omega (arith, h)
from_bits-bits (suc k) x h = (λ j. odd x j + 2 * from_bits-bits k (x / 2) (half_below x k h) j) ∙ double x
  where
    odd : (x : ℕ) → (if x % 2 == 1 then 1 else 0) ≡ x % 2
    odd x = grind (arith, nat_tests)

    double : (x : ℕ) → x % 2 + 2 * (x / 2) ≡ x
    double x = omega arith

pub bits-from_bits : (bs : List Bool) → bits (length bs) (from_bits bs) ≡ bs
bits-from_bits [] = refl
bits-from_bits (b ∷ bs) = (λ i. from_bits_low b bs i ∷ bits (length bs) (from_bits_half b bs i)) ∙ ap (λ cs. b ∷ cs) (bits-from_bits bs)

pub parity_of_bits-bits : (k x : ℕ) → x < 2 ^ k → parity_of_bits (bits k x) ≡ parity x
parity_of_bits-bits zero x h = let none : 0 ≡ x = omega (arith, h) in sym parity_zero ∙ ap parity none
parity_of_bits-bits (suc k) x h = ap (xor (low_bit x)) (parity_of_bits-bits k (x / 2) (half_below x k h)) ∙ sym (parity_step x)

pub code_of_bits-bits : (k c x : ℕ) → x < 2 ^ k → code_of_bits c (bits k x) ≡ code_bit c x
code_of_bits-bits zero c x h = let none : 0 ≡ x = omega (arith, h) in sym (code_zero_state c) ∙ ap (code_bit c) none
code_of_bits-bits (suc k) c x h = go (low_bit c) (code_of_bits-bits k (c / 2) (x / 2) (half_below x k h)) ∙ sym (code_step c x)
  where
    go : (b : Bool) → code_of_bits (c / 2) (bits k (x / 2)) ≡ code_bit (c / 2) (x / 2)
        → parity_of_bits (if b then low_bit x ∷ picked (c / 2) (bits k (x / 2)) else picked (c / 2) (bits k (x / 2))) ≡ xor (b && low_bit x) (code_bit (c / 2) (x / 2))
    go true e = ap (xor (low_bit x)) e
    go false e = e
