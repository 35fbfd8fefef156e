-- the registers on numbers are those on lists of bits
use Rattle.std.proofs.Common.{◌≡◌, ℕ, ◌+◌, ◌*◌, ◌-◌, ◌^◌, ◌/◌, ◌%◌, ◌<◌, ◌≤◌, zero, suc, List, ◌∷◌, length, Bool, true, false, not, ◌||◌, ◌==◌, if◌then◌else◌, refl, sym, ap, ◌∙◌, subst, arith, bit_xor}
use Rattle.std.proofs.lemmas.Bool.Decides.{nat_tests}
use Rattle.std.proofs.Math.Nat.{pow-suc, div-add-mod, mod-lt}
use Rattle.std.proofs.lemmas.Nat.{mod-mul-add, pow_pos}
use Rattle.bb_base.specs.Booleans.{xor, some_true}
use Rattle.bb_base.specs.Bits.{bits, from_bits}
use Rattle.bb_base.specs.Parity.{code_bit, code_of_bits}
use Rattle.bb_gf2.proofs.Codes.{low_bit, xor_half, xor_low}
use Rattle.bb_gf2.proofs.BitLaws.{code_of_bits-bits, bits-from_bits}
use Rattle.bb_gf2.proofs.Pairing.{from_bits_below}
use Rattle.bb_terms.specs.Register.{IsFullPeriod, feedback, next_state, state_after}
use Rattle.bb_terms.specs.OnBits.{shifted, front, zeros, feedback_bit, next_bits, bits_after}
use Rattle.bb_terms.specs.Signature.{xor_each, signature_step, next_signature}
use Rattle.bb_gf2.proofs.Orbit.{state_below}

-- the bits of a number without its highest, behind a new lowest: the number doubled
pub shifted_bits : (k x : ℕ) → shifted (low_bit x) (bits k (x / 2)) ≡ bits k x
shifted_bits zero x = refl
shifted_bits (suc k) x = ap (λ bs. low_bit x ∷ bs) (shifted_bits k (x / 2))

-- the lowest bits of x are those of its half, behind its lowest
mod_double : (k x : ℕ) → x % 2 ^ suc k ≡ x % 2 + 2 * (x / 2 % 2 ^ k)
mod_double k x =
    let p : 2 ^ suc k ≡ 2 ^ k * 2 = pow-suc 2 k in
    let d : 2 ^ k * (x / 2 / 2 ^ k) + x / 2 % 2 ^ k ≡ x / 2 = div-add-mod (x / 2) (2 ^ k) in
    let h : x % 2 + 2 * (x / 2) ≡ x = omega arith in
    let lt : x / 2 % 2 ^ k < 2 ^ k = mod-lt (x / 2) (pow_pos k) in
    let low : x % 2 < 2 = omega arith in
    let within : x % 2 + 2 * (x / 2 % 2 ^ k) < 2 ^ suc k = within_two (x % 2) (x / 2 % 2 ^ k) (2 ^ k) (2 ^ suc k) low lt p in
    let e : x ≡ x / 2 / 2 ^ k * 2 ^ suc k + (x % 2 + 2 * (x / 2 % 2 ^ k)) = joined x (x / 2) (x % 2) (x / 2 / 2 ^ k) (x / 2 % 2 ^ k) (2 ^ k) (2 ^ suc k) p d h in
    ap (λ y. y % 2 ^ suc k) e ∙ mod-mul-add (x / 2 / 2 ^ k) (2 ^ suc k) (x % 2 + 2 * (x / 2 % 2 ^ k)) within
  where
    within_two : (b r m n : ℕ) → b < 2 → r < m → n ≡ m * 2 → b + 2 * r < n
    within_two b r m n h k e = omega arith

    joined : (x a b q r m n : ℕ) → n ≡ m * 2 → m * q + r ≡ a → b + 2 * a ≡ x → x ≡ q * n + (b + 2 * r)
    joined x a b q r m n h k e = grind arith

low_of : (b r : ℕ) → b < 2 → (b + 2 * r) % 2 ≡ b
low_of b r h = omega arith

half_of : (b r : ℕ) → b < 2 → (b + 2 * r) / 2 ≡ r
half_of b r h = omega arith

-- no bit below place k is 1
pub none_below : (k x : ℕ) → not (some_true (bits k x)) ≡ (x % 2 ^ k == 0)
none_below zero x = let e : x % 2 ^ 0 ≡ 0 = omega arith in sym (ap (λ n. n == 0) e)
none_below (suc k) x = both (x % 2) (x / 2 % 2 ^ k) (some_true (bits k (x / 2))) (none_below k (x / 2)) (let e : x % 2 < 2 = omega arith in e) ∙ ap (λ n. n == 0) (sym (mod_double k x))
  where
    both : (b r : ℕ) (s : Bool) → not s ≡ (r == 0) → b < 2 → not ((b == 1) || s) ≡ (b + 2 * r == 0)
    both b r s h k = grind (arith, nat_tests)

pub bits-mod : (k x : ℕ) → bits k (x % 2 ^ k) ≡ bits k x
bits-mod zero x = refl
bits-mod (suc k) x =
    let low : x % 2 < 2 = omega arith in
    ap (bits (suc k)) (mod_double k x) ∙ (λ j. (low_of (x % 2) (x / 2 % 2 ^ k) low j == 1) ∷ (ap (bits k) (half_of (x % 2) (x / 2 % 2 ^ k) low) ∙ bits-mod k (x / 2)) j)

-- a number doubled, with a new lowest bit
bits_of_double : (k x : ℕ) (f : Bool) → bits k ((2 * x + (if f then 1 else 0)) % 2 ^ k) ≡ shifted f (bits k x)
bits_of_double zero x f = refl
bits_of_double (suc j) x f =
    bits-mod (suc j) (2 * x + (if f then 1 else 0)) ∙ (λ i. (ap (λ n. n == 1) (low f) ∙ is f) i ∷ (ap (bits j) (half f) ∙ sym (shifted_bits j x)) i)
  where
    low : (f : Bool) → (2 * x + (if f then 1 else 0)) % 2 ≡ (if f then 1 else 0)
    low true = omega arith
    low false = omega arith

    half : (f : Bool) → (2 * x + (if f then 1 else 0)) / 2 ≡ x
    half true = omega arith
    half false = omega arith

    is : (f : Bool) → ((if f then 1 else 0) == 1) ≡ f
    is true = refl
    is false = refl

feeds : (j mask x : ℕ) → x < 2 ^ suc j → feedback (suc j) mask x ≡ feedback_bit mask (bits (suc j) x)
feeds j mask x lt =
    let coded : code_bit mask x ≡ code_of_bits mask (bits (suc j) x) = sym (code_of_bits-bits (suc j) mask x lt) in
    let turned : (x % 2 ^ (suc j - 1) == 0) ≡ not (some_true (front (bits (suc j) x))) =
    ap (λ n. x % 2 ^ n == 0) (let e : suc j - 1 ≡ j = omega arith in e) ∙ sym (none_below j x) ∙ ap (λ bs. not (some_true bs)) (sym (shifted_bits j x)) in
    λ i. xor (coded i) (turned i)

pub bits-next : (k mask x : ℕ) → 1 ≤ k → x < 2 ^ k → bits k (next_state k mask x) ≡ next_bits mask (bits k x)
bits-next zero mask x some lt = absurd (omega (arith, some))
bits-next (suc j) mask x some lt = bits_of_double (suc j) x (feedback (suc j) mask x) ∙ ap (λ f. shifted f (bits (suc j) x)) (feeds j mask x lt)

bits-zero : (k : ℕ) → bits k 0 ≡ zeros k
bits-zero zero = refl
bits-zero (suc k) = ap (λ bs. false ∷ bs) (bits-zero k)

pub bits-state : (k mask t : ℕ) → 1 ≤ k → bits k (state_after k mask t) ≡ bits_after k mask t
bits-state k mask zero some = bits-zero k
bits-state k mask (suc t) some = bits-next k mask (state_after k mask t) some (state_below k mask t) ∙ ap (next_bits mask) (bits-state k mask t some)

-- a full walk meets each list of bits
pub full_on_bits : (k mask : ℕ) → 1 ≤ k → IsFullPeriod k mask → (xs : List Bool) → length xs ≡ k → (t : ℕ) × (t < 2 ^ k) × (bits_after k mask t ≡ xs)
full_on_bits k mask some full xs long =
    let t = full (from_bits xs) (subst (λ n. from_bits xs < 2 ^ n) long (from_bits_below xs)) in
    (t.0, t.1, sym (bits-state k mask t.0 some) ∙ ap (bits k) t.2 ∙ ap (λ n. bits n (from_bits xs)) (sym long) ∙ bits-from_bits xs)

bits-xor : (k x y : ℕ) → bits k (bit_xor x y) ≡ xor_each (bits k x) (bits k y)
bits-xor zero x y = refl
bits-xor (suc k) x y = (λ i. xor_low x y i ∷ (ap (bits k) (xor_half x y) ∙ bits-xor k (x / 2) (y / 2)) i)

pub bits-signature : (k mask cells lines : ℕ) → cells < 2 ^ k → lines < 2 ^ k → bits k (next_signature k mask cells lines) ≡ signature_step mask (bits k cells) (bits k lines)
bits-signature k mask cells lines lc ll =
    bits-xor k lines ((2 * cells + (if code_bit mask cells then 1 else 0)) % 2 ^ k)
    ∙ ap (xor_each (bits k lines)) (bits_of_double k cells (code_bit mask cells) ∙ ap (λ f. shifted f (bits k cells)) (sym (code_of_bits-bits k mask cells lc)))
