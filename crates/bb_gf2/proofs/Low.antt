-- Numbers that an exclusive or does not lower. Both leasts rest on one fact: where neither of two numbers is lowered
-- by s, their exclusive or is not.
use Rattle.std.proofs.Common.{◌≡◌, ℕ, ◌*◌, ◌/◌, ◌%◌, ◌^◌, ◌<◌, ◌≤◌, ◌==◌, ◌≢◌, zero, suc, Bool, true, false, not, ◌&&◌, refl, sym, ap, ◌∙◌, subst, arith, bit_xor, ◌⊎◌, inl, inr}
use Rattle.std.proofs.lemmas.Bool.Decides.{nat_tests}
use Rattle.std.proofs.lemmas.Bool.{cases_lt}
use lib.Arith.{bin_ind}
use lib.Bits.{xor_zero_r, xor_assoc, xor_self}
use Rattle.bb_base.specs.Booleans.{xor}
use Rattle.std.specs.Int.{bit_at}
use Rattle.std.proofs.lemmas.Nat.Bits.{bit_at_lowest, bit_at-suc}
use Rattle.std.proofs.Math.Nat.{pow-suc}
use Rattle.bb_base.specs.Parity.{code_bit}
use Rattle.bb_gf2.proofs.Codes.{low_bit, xor_half, xor_low, code_step, code_zero_state}

-- s does not lower a
abbrev pub Keeps : ℕ → ℕ → Type 0
Keeps s a = a ≤ bit_xor a s

-- half of it
pub keeps_half : (s a : ℕ) → Keeps s a → Keeps (s / 2) (a / 2)
keeps_half s a h = let half : bit_xor a s / 2 ≡ bit_xor (a / 2) (s / 2) = xor_half a s in omega (arith, h, half)

-- what has the same half and is even isn't above it
even_first : (c e : ℕ) → c / 2 ≡ e / 2 → c % 2 ≡ 0 → c ≤ e
even_first c e h z = omega (arith, h, z)

one_even : (a s : ℕ) → s / 2 ≡ 0 → low_bit s ≡ true → Keeps s a → low_bit a ≡ false
one_even a s none odd h = go (low_bit a) refl (xor_low a s)
  where
    go : (b : Bool) → low_bit a ≡ b → low_bit (bit_xor a s) ≡ xor (low_bit a) (low_bit s) → b ≡ false
    go false e x = refl
    go true e x =
        let half : bit_xor a s / 2 ≡ a / 2 = xor_half a s ∙ ap (bit_xor (a / 2)) none ∙ xor_zero_r (a / 2) in
        let flipped : low_bit (bit_xor a s) ≡ false = x ∙ (λ i. xor (e i) (odd i)) in
        absurd (grind (arith, nat_tests))

pub keeps_zero : (a : ℕ) → Keeps 0 a
keeps_zero a = let same : bit_xor a 0 ≡ a = xor_zero_r a in omega (arith, same)

-- what changes nothing is 0
pub cancel_xor : (x y : ℕ) → x ≡ bit_xor x y → y ≡ 0
cancel_xor x y e = sym (ap (λ z. bit_xor z y) (xor_self x)) ∙ xor_assoc x x y ∙ ap (bit_xor x) (sym e) ∙ xor_self x

-- a number with this half and this lowest bit
zero_from : (s : ℕ) → s / 2 ≡ 0 → low_bit s ≡ false → s ≡ 0
zero_from s h e = let even : s % 2 ≢ 1 = grind (arith, nat_tests) in omega (arith, h, even)

even_from : (c : ℕ) → low_bit c ≡ false → c % 2 ≡ 0
even_from c e = let even : c % 2 ≢ 1 = grind (arith, nat_tests) in omega (arith, even)

-- where s lowers neither of two numbers, it doesn't lower their exclusive or
pub keeps_xor : (s a b : ℕ) → Keeps s a → Keeps s b → Keeps s (bit_xor a b)
keeps_xor = bin_ind (λ s. (a b : ℕ) → Keeps s a → Keeps s b → Keeps s (bit_xor a b)) start step
  where
    start : (a b : ℕ) → Keeps 0 a → Keeps 0 b → Keeps 0 (bit_xor a b)
    start a b h k = keeps_zero (bit_xor a b)

    step : (s : ℕ) → ((a b : ℕ) → Keeps (s / 2) a → Keeps (s / 2) b → Keeps (s / 2) (bit_xor a b)) → (a b : ℕ) → Keeps s a → Keeps s b → Keeps s (bit_xor a b)
    step s more a b h k = go (cases_lt (c / 2) (bit_xor c s / 2))
      where
        c : ℕ
        c = bit_xor a b

        halves : bit_xor c s / 2 ≡ bit_xor (c / 2) (s / 2)
        halves = xor_half c s

        under : c / 2 ≤ bit_xor c s / 2
        under =
            let e : bit_xor (a / 2) (b / 2) ≡ c / 2 = sym (xor_half a b) in
            let m : Keeps (s / 2) (c / 2) = subst (Keeps (s / 2)) e (more (a / 2) (b / 2) (keeps_half s a h) (keeps_half s b k)) in
            omega (arith, m, halves)

        odd : s / 2 ≡ 0 → (low : Bool) → low_bit s ≡ low → Keeps s c
        odd none false e = let zero_s : s ≡ 0 = zero_from s none e in subst (λ t. Keeps t c) (sym zero_s) (keeps_zero c)
        odd none true e =
            let even : c % 2 ≡ 0 = even_from c (xor_low a b ∙ (λ i. xor (one_even a s none e h i) (one_even b s none e k i))) in
            let same : c / 2 ≡ bit_xor c s / 2 = sym (halves ∙ ap (bit_xor (c / 2)) none ∙ xor_zero_r (c / 2)) in
            even_first c (bit_xor c s) same even

        go : (c / 2 < bit_xor c s / 2) ⊎ (bit_xor c s / 2 ≤ c / 2) → Keeps s c
        go (inl lt) = omega (arith, lt)
        go (inr le) =
            let same : c / 2 ≡ bit_xor (c / 2) (s / 2) = (let equal : c / 2 ≡ bit_xor c s / 2 = omega (arith, le, under) in equal ∙ halves) in
            odd (cancel_xor (c / 2) (s / 2) same) (low_bit s) refl

-- the lowest one of a number has the code bit 1 with it, and what the number misses doesn't lower it
pub lowest_coded : (p v : ℕ) → bit_at v p ≡ 1 → ((i : ℕ) → i < p → bit_at v i ≡ 0) → code_bit v (2 ^ p) ≡ true
lowest_coded zero v one below =
    let odd : low_bit v ≡ true = ap (λ n. n == 1) (sym (bit_at_lowest v) ∙ one) in
    code_step v 1 ∙ (λ i. xor (odd i && true) (code_zero_state (v / 2) i))
lowest_coded (suc p) v one below =
    let even : low_bit v ≡ false = ap (λ n. n == 1) (sym (bit_at_lowest v) ∙ below 0 (omega arith)) in
    let rest = lowest_coded p (v / 2) (sym (bit_at-suc v p) ∙ one) (λ i lt. sym (bit_at-suc v i) ∙ below (suc i) (omega (arith, lt))) in
    let half : 2 ^ suc p / 2 ≡ 2 ^ p = (let e : 2 ^ suc p ≡ 2 ^ p * 2 = pow-suc 2 p in omega (arith, e)) in
    code_step v (2 ^ suc p) ∙ (λ i. xor (even i && low_bit (2 ^ suc p)) (code_bit (v / 2) (half i))) ∙ rest

pub lowest_keeps : (p v : ℕ) → bit_at v p ≡ 1 → ((i : ℕ) → i < p → bit_at v i ≡ 0) → (n : ℕ) → code_bit v n ≡ false → Keeps n (2 ^ p)
lowest_keeps zero v one below n missed = go (n / 2) refl (low_bit n) refl
  where
    half : bit_xor 1 n / 2 ≡ n / 2
    half = xor_half 1 n

    odd : low_bit v ≡ true
    odd = ap (λ n. n == 1) (sym (bit_at_lowest v) ∙ one)

    go : (h : ℕ) → n / 2 ≡ h → (b : Bool) → low_bit n ≡ b → Keeps n 1
    go (suc h) e b low = omega (arith, e, half)
    go zero e false low = subst (λ m. Keeps m 1) (sym (zero_from n e low)) (keeps_zero 1)
    go zero e true low =
        let hit : code_bit v n ≡ true = code_step v n ∙ (λ i. xor (odd i && low i) (code_bit (v / 2) (e i))) ∙ ap not (code_zero_state (v / 2)) in
        absurd (cc (hit, missed))
lowest_keeps (suc p) v one below n missed =
    let even : low_bit v ≡ false = ap (λ n. n == 1) (sym (bit_at_lowest v) ∙ below 0 (omega arith)) in
    let rest_missed : code_bit (v / 2) (n / 2) ≡ false = sym (code_step v n ∙ (λ i. xor (even i && low_bit n) (code_bit (v / 2) (n / 2)))) ∙ missed in
    let rest = lowest_keeps p (v / 2) (sym (bit_at-suc v p) ∙ one) (λ i lt. sym (bit_at-suc v i) ∙ below (suc i) (omega (arith, lt))) (n / 2) rest_missed in
    let e : 2 ^ suc p ≡ 2 ^ p * 2 = pow-suc 2 p in
    let half : 2 ^ suc p / 2 ≡ 2 ^ p = omega (arith, e) in
    let halves : bit_xor (2 ^ suc p) n / 2 ≡ bit_xor (2 ^ p) (n / 2) = xor_half (2 ^ suc p) n ∙ ap (λ m. bit_xor m (n / 2)) half in
    omega (arith, e, halves, rest)
