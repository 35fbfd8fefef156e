-- parities bit by bit, and that they are linear
use Rattle.std.proofs.Common.{◌≡◌, ℕ, ◌+◌, ◌/◌, ◌%◌, ◌<◌, ◌==◌, zero, suc, min, Bool, false, ◌&&◌, refl, sym, ap, ◌∙◌, arith, bit_and, bit_xor}
use Rattle.std.specs.Int.{bit_at}
use Rattle.std.specs.Prelude.{count_ones}
use Rattle.std.proofs.lemmas.Nat.Bits.{bit_at_and, bit_at_xor, bit_at-lt, bit_at_lowest, same_from_bits}
use Rattle.std.proofs.lemmas.Nat.{and_comm, xor_shr, and_shr}
use lib.Arith.{bin_ind}
use lib.Count.{ones, ones_step}
use Rattle.bb_base.specs.Booleans.{xor}
use Rattle.bb_base.specs.Parity.{parity, code_bit}
use Rattle.bb_gf2.proofs.Xor.{swap_xor}

-- the lowest bit of a number
abbrev pub low_bit : ℕ → Bool
low_bit n = n % 2 == 1

low_sum : (a b : ℕ) → a < 2 → b < 2 → ((a + b) % 2 == 1) ≡ xor (a == 1) (b == 1)
low_sum zero zero g h = refl
low_sum zero (suc zero) g h = refl
low_sum (suc zero) zero g h = refl
low_sum (suc zero) (suc zero) g h = refl
low_sum (suc (suc a)) b g h = absurd (omega (arith, g))
low_sum a (suc (suc b)) g h = absurd (omega (arith, h))

-- a sum is odd where one of its two numbers is and not both
pub odd_sum : (a b : ℕ) → low_bit (a + b) ≡ xor (low_bit a) (low_bit b)
odd_sum a b = let e : (a + b) % 2 ≡ (a % 2 + b % 2) % 2 = omega arith in ap (λ n. n == 1) e ∙ low_sum (a % 2) (b % 2) (omega arith) (omega arith)

pub parity_step : (n : ℕ) → parity n ≡ xor (low_bit n) (parity (n / 2))
parity_step n =
    let low : n % 2 % 2 ≡ n % 2 = omega arith in
    ap low_bit (ones_step n) ∙ odd_sum (n % 2) (count_ones (n / 2)) ∙ ap (λ m. xor (m == 1) (parity (n / 2))) low

pub parity_zero : parity 0 ≡ false
unfolding count_ones
parity_zero = refl

-- the two halves of an exclusive or
pub xor_half : (a b : ℕ) → bit_xor a b / 2 ≡ bit_xor (a / 2) (b / 2)
xor_half a b = xor_shr a b 1

pub and_half : (a b : ℕ) → bit_and a b / 2 ≡ bit_and (a / 2) (b / 2)
and_half a b = and_shr a b 1

xor_mod_two : (a b : ℕ) → bit_xor a b % 2 ≡ (a % 2 + b % 2) % 2
xor_mod_two a b = sym (bit_at_lowest (bit_xor a b)) ∙ bit_at_xor a b 0 ∙ (λ i. (bit_at_lowest a i + bit_at_lowest b i) % 2)

and_mod_two : (a b : ℕ) → bit_and a b % 2 ≡ min (a % 2) (b % 2)
and_mod_two a b = sym (bit_at_lowest (bit_and a b)) ∙ bit_at_and a b 0 ∙ (λ i. min (bit_at_lowest a i) (bit_at_lowest b i))

low_min : (a b : ℕ) → a < 2 → b < 2 → (min a b == 1) ≡ ((a == 1) && (b == 1))
low_min zero zero g h = refl
low_min zero (suc zero) g h = refl
low_min (suc zero) zero g h = refl
low_min (suc zero) (suc zero) g h = refl
low_min (suc (suc a)) b g h = absurd (omega (arith, g))
low_min a (suc (suc b)) g h = absurd (omega (arith, h))

pub xor_low : (a b : ℕ) → low_bit (bit_xor a b) ≡ xor (low_bit a) (low_bit b)
xor_low a b = ap (λ n. n == 1) (xor_mod_two a b) ∙ low_sum (a % 2) (b % 2) (omega arith) (omega arith)

pub and_low : (a b : ℕ) → low_bit (bit_and a b) ≡ (low_bit a && low_bit b)
and_low a b = ap (λ n. n == 1) (and_mod_two a b) ∙ low_min (a % 2) (b % 2) (omega arith) (omega arith)

-- the parity of an exclusive or
pub parity_xor : (a b : ℕ) → parity (bit_xor a b) ≡ xor (parity a) (parity b)
unfolding count_ones
parity_xor = bin_ind (λ a. (b : ℕ) → parity (bit_xor a b) ≡ xor (parity a) (parity b)) (λ b. refl) step
  where
    step : (a : ℕ) → ((b : ℕ) → parity (bit_xor (a / 2) b) ≡ xor (parity (a / 2)) (parity b)) → (b : ℕ) → parity (bit_xor a b) ≡ xor (parity a) (parity b)
    step a h b =
        parity_step (bit_xor a b) ∙ (λ i. xor (xor_low a b i) (parity (xor_half a b i))) ∙ ap (xor (xor (low_bit a) (low_bit b))) (h (b / 2))
        ∙ swap_xor (low_bit a) (low_bit b) (parity (a / 2)) (parity (b / 2))
        ∙ sym (λ i. xor (parity_step a i) (parity_step b i))

-- a code bit, one bit at a time
pub code_step : (c x : ℕ) → code_bit c x ≡ xor (low_bit c && low_bit x) (code_bit (c / 2) (x / 2))
code_step c x = parity_step (bit_and c x) ∙ (λ i. xor (and_low c x i) (parity (and_half c x i)))

pub code_comm : (c x : ℕ) → code_bit c x ≡ code_bit x c
code_comm c x = ap parity (and_comm c x)

-- the code bit of an exclusive or of columns
pub code_xor : (a b x : ℕ) → code_bit (bit_xor a b) x ≡ xor (code_bit a x) (code_bit b x)
code_xor a b x = ap parity (and_xor a b x) ∙ parity_xor (bit_and a x) (bit_and b x)
  where
    min_sum : (a b c : ℕ) → a < 2 → b < 2 → c < 2 → min ((a + b) % 2) c ≡ (min a c + min b c) % 2
    min_sum zero zero zero f g h = refl
    min_sum zero zero (suc zero) f g h = refl
    min_sum zero (suc zero) zero f g h = refl
    min_sum zero (suc zero) (suc zero) f g h = refl
    min_sum (suc zero) zero zero f g h = refl
    min_sum (suc zero) zero (suc zero) f g h = refl
    min_sum (suc zero) (suc zero) zero f g h = refl
    min_sum (suc zero) (suc zero) (suc zero) f g h = refl
    min_sum a b (suc (suc c)) f g h = absurd (omega (arith, h))
    min_sum (suc (suc a)) b c f g h = absurd (omega (arith, f))
    min_sum a (suc (suc b)) c f g h = absurd (omega (arith, g))

    and_xor : (a b x : ℕ) → bit_and (bit_xor a b) x ≡ bit_xor (bit_and a x) (bit_and b x)
    and_xor a b x =
        same_from_bits (bit_and (bit_xor a b) x) (bit_xor (bit_and a x) (bit_and b x)) (λ i.
        bit_at_and (bit_xor a b) x i ∙ ap (λ n. min n (bit_at x i)) (bit_at_xor a b i)
        ∙ min_sum (bit_at a i) (bit_at b i) (bit_at x i) (bit_at-lt a i) (bit_at-lt b i) (bit_at-lt x i)
        ∙ sym (bit_at_xor (bit_and a x) (bit_and b x) i ∙ (λ j. (bit_at_and a x i j + bit_at_and b x i j) % 2)))

-- and of states
pub code_xor_state : (c x y : ℕ) → code_bit c (bit_xor x y) ≡ xor (code_bit c x) (code_bit c y)
code_xor_state c x y = code_comm c (bit_xor x y) ∙ code_xor x y c ∙ (λ i. xor (code_comm x c i) (code_comm y c i))

pub code_zero : (x : ℕ) → code_bit 0 x ≡ false
unfolding count_ones
code_zero x = refl

pub code_zero_state : (c : ℕ) → code_bit c 0 ≡ false
unfolding count_ones
code_zero_state c = code_comm c 0
