-- a full walk is at the state with a 1 in the last place alone right before it is back at 0
use Rattle.std.proofs.Common.{◌≡◌, ℕ, ◌+◌, ◌*◌, ◌/◌, ◌%◌, ◌^◌, ◌<◌, ◌≤◌, ◌==◌, zero, suc, Bool, true, not, ◌&&◌, sym, ap, ◌∙◌, arith}
use Rattle.std.proofs.lemmas.Bool.Decides.{nat_tests}
use Rattle.std.proofs.Math.Nat.{pow-suc, div-div-eq-div-mul}
use Rattle.std.proofs.lemmas.Nat.{pow_pos, shr_split}
use Rattle.bb_base.specs.Bits.{bits}
use Rattle.bb_base.specs.Booleans.{some_true}
use Rattle.bb_gf2.proofs.Codes.{low_bit}
use Rattle.bb_terms.specs.Register.{IsMask, IsFullPeriod, next_state, state_after}
use Rattle.bb_terms.specs.OnBits.{last_of, at_last, bits_after}
use Rattle.bb_gf2.proofs.Injective.{next_injective, next_of_last}
use Rattle.bb_gf2.proofs.Orbit.{state_below, round, late_from_full, first_return, first_return_from_full}
use Rattle.bb_gf2.proofs.BitSteps.{shifted_bits, none_below, bits-state}

-- the last of the lowest bits
last_bit : (j x : ℕ) (b : Bool) → last_of b (bits (suc j) x) ≡ low_bit (x / 2 ^ j)
last_bit zero x b = let e : x ≡ x / 2 ^ 0 = omega arith in ap low_bit e
last_bit (suc j) x b =
    let e : x / 2 / 2 ^ j ≡ x / 2 ^ suc j = div-div-eq-div-mul x 2 (2 ^ j) ∙ ap (λ n. x / n) (let p : 2 ^ suc j ≡ 2 ^ j * 2 = pow-suc 2 j in omega (arith, p)) in
    last_bit j (x / 2) (low_bit x) ∙ ap low_bit e

-- the state with a 1 in the last place alone, as a number
last_is : (j x : ℕ) → x < 2 ^ suc j → at_last (bits (suc j) x) ≡ (x == 2 ^ j)
last_is j x lt =
    let double : 2 ^ suc j ≡ 2 ^ j * 2 = pow-suc 2 j in
    (λ i. last_bit j x true i && (ap (λ bs. not (some_true bs)) (shifted_bits j x) ∙ none_below j x) i)
    ∙ parts x (2 ^ j) (x / 2 ^ j) (x % 2 ^ j) (pow_pos j) (shr_split x j) (let some = pow_pos j in omega (arith, some)) (omega (arith, lt, double))
  where
    parts : (x h a r : ℕ) → 0 < h → a * h + r ≡ x → r < h → x < h * 2 → (low_bit a && (r == 0)) ≡ (x == h)
    parts x h zero r some whole small lt = grind (arith, nat_tests)
    parts x h (suc zero) r some whole small lt = grind (arith, nat_tests)
    parts x h (suc (suc a)) r some whole small lt = absurd (grind arith)

end_at : (j mask t : ℕ) → IsMask (suc j) mask → IsFullPeriod (suc j) mask → t < 2 ^ suc j → (state_after (suc j) mask t == 2 ^ j) ≡ (suc t == 2 ^ suc j)
end_at j mask t h full lt = same (state_after (suc j) mask t) (2 ^ j) (suc t) (2 ^ suc j) forth back
  where
    same : (x y m n : ℕ) → (x ≡ y → m ≡ n) → (m ≡ n → x ≡ y) → (x == y) ≡ (m == n)
    same x y m n f g = grind (arith, nat_tests)

    forth : state_after (suc j) mask t ≡ 2 ^ j → suc t ≡ 2 ^ suc j
    forth e =
        let late = late_from_full (suc j) mask (suc t) full (omega arith) (ap (next_state (suc j) mask) e ∙ next_of_last j mask h) in
        omega (arith, late, lt)

    back : suc t ≡ 2 ^ suc j → state_after (suc j) mask t ≡ 2 ^ j
    back e =
        let returns = first_return_from_full j mask h full in
        let double : 2 ^ suc j ≡ 2 ^ j * 2 = pow-suc 2 j in
        let some = pow_pos j in
        next_injective j mask (state_after (suc j) mask t) (2 ^ j) h (state_below (suc j) mask t) (omega (arith, double, some))
        (ap (state_after (suc j) mask) e ∙ returns.back ∙ sym (next_of_last j mask h))

pub end_is_last : (k mask t : ℕ) → 1 ≤ k → IsMask k mask → IsFullPeriod k mask → t < 2 ^ k → at_last (bits_after k mask t) ≡ (suc t == 2 ^ k)
end_is_last zero mask t some h full lt = absurd (omega (arith, some))
end_is_last (suc j) mask t some h full lt =
    ap at_last (sym (bits-state (suc j) mask t some)) ∙ last_is j (state_after (suc j) mask t) (state_below (suc j) mask t) ∙ end_at j mask t h full lt

-- after all its states a full walk goes round
pub goes_round : (k mask t : ℕ) → 1 ≤ k → IsMask k mask → IsFullPeriod k mask → bits_after k mask (2 ^ k + t) ≡ bits_after k mask t
goes_round k mask t some h full =
    let returns = first_return k mask some h full in
    sym (bits-state k mask (2 ^ k + t) some) ∙ ap (bits k) (round k mask (2 ^ k) returns.back t) ∙ bits-state k mask t some
