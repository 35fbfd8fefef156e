-- the code's step and walk in the words of the definitions
use Rattle.std.proofs.Common.{◌≡◌, ◌≢◌, ℕ, ◌+◌, ◌-◌, ◌*◌, ◌/◌, ◌%◌, ◌^◌, ◌<◌, ◌≤◌, ◌==◌, zero, suc, Bool, true, false, not, if◌then◌else◌, eqb, refl, sym, ap, ◌∙◌, subst, arith, bit_and, ◌⊎◌, inl, inr}
use mathlib.Core.Bool.{beq}
use mir.Val.{bool_byte}
use Rattle.std.proofs.lemmas.Bool.{cases_lt}
use Rattle.std.proofs.lemmas.Nat.{one_shl, and_mask}
use Rattle.std.proofs.Math.Nat.{pow-suc}
use Rattle.bb_base.specs.Booleans.{xor}
use Rattle.bb_base.specs.Parity.{code_bit}
use Rattle.bb_terms.specs.Register.{next_state, state_after}
use Rattle.bb_terms.specs.Walk.{IsAway}

pub size_is : (k : ℕ) → k ≤ 31 → 1 * 2 ^ k % 2 ^ 32 ≡ 2 ^ k
size_is k most = one_shl k 32 (omega (arith, most))

half_of_size : (k : ℕ) → 1 ≤ k → 2 ^ k / 2 ≡ 2 ^ (k - 1)
half_of_size zero some = absurd (omega (arith, some))
half_of_size (suc j) some =
    let e : suc j - 1 ≡ j = omega arith in
    let double : 2 ^ suc j ≡ 2 ^ j * 2 = pow-suc 2 j in
    let half : 2 ^ suc j / 2 ≡ 2 ^ j = omega (arith, double) in
    half ∙ ap (λ n. 2 ^ n) (sym e)

byte_is : (b z : Bool) → bool_byte (not (beq b z)) ≡ (if xor b z then 1 else 0)
byte_is true true = refl
byte_is true false = refl
byte_is false true = refl
byte_is false false = refl

-- masks of ones in place of remainders
pub next_by_masks : (k m x taken : ℕ) (coded : Bool) → 1 ≤ k → k ≤ 31 → coded ≡ code_bit m x
    → taken ≡ bool_byte (not (beq coded (eqb (bit_and x (1 * 2 ^ k % 2 ^ 32 / 2 - 1)) 0)))
    → bit_and (2 * x + taken) (1 * 2 ^ k % 2 ^ 32 - 1) ≡ next_state k m x
next_by_masks k m x taken coded some most code taken_is =
    let size = size_is k most in
    let low : bit_and x (1 * 2 ^ k % 2 ^ 32 / 2 - 1) ≡ x % 2 ^ (k - 1) =
    ap (λ n. bit_and x (n - 1)) (ap (λ n. n / 2) size ∙ half_of_size k some) ∙ and_mask x (k - 1) in
    let fed : taken ≡ (if xor (code_bit m x) (x % 2 ^ (k - 1) == 0) then 1 else 0) =
    taken_is ∙ byte_is coded (eqb (bit_and x (1 * 2 ^ k % 2 ^ 32 / 2 - 1)) 0) ∙ (λ i. if xor (code i) (low i == 0) then 1 else 0) in
    (λ i. bit_and (2 * x + fed i) (size i - 1)) ∙ and_mask (2 * x + (if xor (code_bit m x) (x % 2 ^ (k - 1) == 0) then 1 else 0)) k

-- one step on
pub walked : (k m x y steps : ℕ) → 1 ≤ steps → x ≡ state_after k m (steps - 1) → y ≡ next_state k m x → y ≡ state_after k m steps
walked k m x y zero some at step = absurd (omega (arith, some))
walked k m x y (suc s) some at step = let e : suc s - 1 ≡ s = omega arith in step ∙ ap (next_state k m) (at ∙ ap (state_after k m) e)

-- away for one step more
pub away_more : (k m steps : ℕ) → IsAway k m steps → state_after k m steps ≢ 0 → IsAway k m (steps + 1)
away_more k m steps away here t some lt = go (cases_lt t steps)
  where
    go : (t < steps) ⊎ (steps ≤ t) → state_after k m t ≢ 0
    go (inl l) = away t some l
    go (inr le) = let e : steps ≡ t = omega (arith, le, lt) in subst (λ n. state_after k m n ≢ 0) e here
