-- the step of a complete register is one to one, since the last bit is tapped
use Rattle.std.proofs.Common.{◌≡◌, ℕ, ◌+◌, ◌-◌, ◌*◌, ◌/◌, ◌%◌, ◌^◌, ◌<◌, ◌≤◌, ◌==◌, zero, suc, Bool, true, false, not, if◌then◌else◌, refl, sym, ap, ◌∙◌, subst, arith, bit_and}
use Rattle.std.specs.Prelude.{count_ones}
use Rattle.std.proofs.lemmas.Bool.Decides.{nat_tests}
use Rattle.std.proofs.lemmas.Nat.{and_block, and_le_l, ones_cat, mod_low, pow_pos, shr_split}
use Rattle.std.proofs.Math.Nat.{pow-suc}
use Rattle.bb_base.specs.Booleans.{xor}
use Rattle.bb_base.specs.Parity.{parity, code_bit}
use Rattle.bb_gf2.proofs.Xor.{xor_self_bits, xor_assoc_bits, xor_comm_bits}
use Rattle.bb_gf2.proofs.Codes.{odd_sum, parity_step, parity_zero, code_zero_state}
use Rattle.bb_terms.specs.Register.{IsMask, feedback, next_state}

-- a bit as a number
abbrev pub digit : Bool → ℕ
digit b = if b then 1 else 0

pub digit_below : (b : Bool) → digit b < 2
digit_below true = omega arith
digit_below false = omega arith

same_digits : (a b : Bool) → digit a ≡ digit b → a ≡ b
same_digits true true e = refl
same_digits true false e = absurd (omega (arith, e))
same_digits false true e = absurd (omega (arith, e))
same_digits false false e = refl

-- the parity of a number by its parts
parity_block : (k a r : ℕ) → r < 2 ^ k → parity (a * 2 ^ k + r) ≡ xor (parity a) (parity r)
parity_block k a r lt = ap (λ n. n % 2 == 1) (ones_cat k a r lt) ∙ odd_sum (count_ones a) (count_ones r)

code_block : (k a b r s : ℕ) → r < 2 ^ k → s < 2 ^ k → code_bit (a * 2 ^ k + r) (b * 2 ^ k + s) ≡ xor (code_bit a b) (code_bit r s)
code_block k a b r s lr ls = ap parity (and_block k a b r s lr ls) ∙ parity_block k (bit_and a b) (bit_and r s) (let le = and_le r s in omega (arith, le, lr))
  where
    and_le : (r s : ℕ) → bit_and r s ≤ r
    and_le = and_le_l

one_codes : (a : ℕ) → a < 2 → code_bit 1 a ≡ (a == 1)
one_codes zero h = parity_zero
one_codes (suc zero) h = parity_step 1 ∙ ap not parity_zero
one_codes (suc (suc a)) h = absurd (omega (arith, h))

-- the state whose bits but the last are r and whose last is a
pub feedback_split : (j m q a r : ℕ) → m ≡ 1 * 2 ^ j + q → q < 2 ^ j → r < 2 ^ j → a < 2 → feedback (suc j) m (a * 2 ^ j + r) ≡ xor (xor (a == 1) (code_bit q r)) (r == 0)
feedback_split j m q a r is lq lr la =
    let low : (a * 2 ^ j + r) % 2 ^ (suc j - 1) ≡ r = (let e : suc j - 1 ≡ j = omega arith in ap (λ n. (a * 2 ^ j + r) % 2 ^ n) e ∙ mod_low a j r lr) in
    (λ i. xor ((ap (λ n. code_bit n (a * 2 ^ j + r)) is ∙ code_block j 1 a q r lq lr ∙ ap (λ b. xor b (code_bit q r)) (one_codes a la)) i) (low i == 0))

pub next_split : (j m a r : ℕ) → r < 2 ^ j → next_state (suc j) m (a * 2 ^ j + r) ≡ 2 * r + digit (feedback (suc j) m (a * 2 ^ j + r))
next_split j m a r lr =
    let f = digit (feedback (suc j) m (a * 2 ^ j + r)) in
    let lf : f < 2 = digit_below (feedback (suc j) m (a * 2 ^ j + r)) in
    let double : 2 ^ suc j ≡ 2 ^ j * 2 = pow-suc 2 j in
    let small : 2 * r + f < 2 ^ suc j = omega (arith, double, lr, lf) in
    let whole : 2 * (a * 2 ^ j + r) + f ≡ a * 2 ^ suc j + (2 * r + f) = regroup a (2 ^ j) (2 ^ suc j) r f double in
    ap (λ n. n % 2 ^ suc j) whole ∙ mod_low a (suc j) (2 * r + f) small
  where
    regroup : (a h n r f : ℕ) → n ≡ h * 2 → 2 * (a * h + r) + f ≡ a * n + (2 * r + f)
    regroup a h n r f e = grind arith

-- the parts of a state
pub record Parts (j x : ℕ) : Type 0 where
  pub last : ℕ
  pub rest : ℕ
  pub is : x ≡ last * 2 ^ j + rest
  pub last_below : last < 2
  pub rest_below : rest < 2 ^ j

pub parts : (j x : ℕ) → x < 2 ^ suc j → Parts j x
parts j x lt =
    let double : 2 ^ suc j ≡ 2 ^ j * 2 = pow-suc 2 j in
    let some = pow_pos j in
    let whole = shr_split x j in
    record { last = x / 2 ^ j; rest = x % 2 ^ j; is = sym whole; last_below = top (x / 2 ^ j) (2 ^ j) (x % 2 ^ j) some (omega (arith, whole, double, lt)); rest_below = omega (arith, some) }
  where
    top : (a h r : ℕ) → 0 < h → a * h + r < h * 2 → a < 2
    top zero h r some le = omega arith
    top (suc zero) h r some le = omega arith
    top (suc (suc a)) h r some le = absurd (grind arith)

-- a mask's parts: its last bit is 1
pub mask_parts : (j m : ℕ) → IsMask (suc j) m → (q : ℕ) × (m ≡ 1 * 2 ^ j + q) × (q < 2 ^ j)
mask_parts j m h =
    let e : suc j - 1 ≡ j = omega arith in
    let last : 2 ^ j ≤ m = subst (λ n. 2 ^ n ≤ m) e h.last in
    let double : 2 ^ suc j ≡ 2 ^ j * 2 = pow-suc 2 j in
    let below = h.below in
    (m - 2 ^ j, omega (arith, last), omega (arith, last, double, below))

pub next_below : (k m x : ℕ) → next_state k m x < 2 ^ k
next_below k m x = let some = pow_pos k in omega (arith, some)

cancel : (u v w : Bool) → xor u w ≡ xor v w → u ≡ v
cancel u v w e = sym (back u) ∙ ap (λ b. xor b w) e ∙ back v
  where
    back : (u : Bool) → xor (xor u w) w ≡ u
    back u = xor_assoc_bits u w w ∙ ap (xor u) (xor_self_bits w) ∙ xor_comm_bits u false

same_last : (a b : ℕ) → a < 2 → b < 2 → (a == 1) ≡ (b == 1) → a ≡ b
same_last a b g h e = grind (arith, nat_tests)

injective_at : (j m q a b r s : ℕ) → m ≡ 1 * 2 ^ j + q → q < 2 ^ j → a < 2 → b < 2 → r < 2 ^ j → s < 2 ^ j
    → next_state (suc j) m (a * 2 ^ j + r) ≡ next_state (suc j) m (b * 2 ^ j + s) → a * 2 ^ j + r ≡ b * 2 ^ j + s
injective_at j m q a b r s is lq la lb lr ls e =
    let f = feedback (suc j) m (a * 2 ^ j + r) in
    let g = feedback (suc j) m (b * 2 ^ j + s) in
    let equal : 2 * r + digit f ≡ 2 * s + digit g = sym (next_split j m a r lr) ∙ e ∙ next_split j m b s ls in
    let lf = digit_below f in
    let lg = digit_below g in
    let rests : r ≡ s = omega (arith, equal, lf, lg) in
    let taken : f ≡ g = same_digits f g (omega (arith, equal, lf, lg)) in
    let lasts : (a == 1) ≡ (b == 1) =
    cancel (a == 1) (b == 1) (code_bit q s)
    (cancel (xor (a == 1) (code_bit q s)) (xor (b == 1) (code_bit q s)) (s == 0)
    (ap (λ n. xor (xor (a == 1) (code_bit q n)) (n == 0)) (sym rests) ∙ sym (feedback_split j m q a r is lq lr la) ∙ taken ∙ feedback_split j m q b s is lq ls lb)) in
    (λ i. same_last a b la lb lasts i * 2 ^ j + rests i)

-- states with one next state are one
pub next_injective : (j m x y : ℕ) → IsMask (suc j) m → x < 2 ^ suc j → y < 2 ^ suc j → next_state (suc j) m x ≡ next_state (suc j) m y → x ≡ y
next_injective j m x y h lx ly e =
    let px = parts j x lx in
    let py = parts j y ly in
    let pm = mask_parts j m h in
    px.is
    ∙ injective_at j m pm.0 px.last py.last px.rest py.rest pm.1 pm.2 px.last_below py.last_below px.rest_below py.rest_below
    (ap (next_state (suc j) m) (sym px.is) ∙ e ∙ ap (next_state (suc j) m) py.is)
    ∙ sym py.is

-- the state with a 1 in the last place alone is followed by 0
pub next_of_last : (j m : ℕ) → IsMask (suc j) m → next_state (suc j) m (2 ^ j) ≡ 0
next_of_last j m h =
    let pm = mask_parts j m h in
    let some = pow_pos j in
    let whole : 1 * 2 ^ j + 0 ≡ 2 ^ j = omega arith in
    let turned : feedback (suc j) m (1 * 2 ^ j + 0) ≡ false =
    feedback_split j m pm.0 1 0 pm.1 pm.2 some (omega arith) ∙ ap (λ b. xor (xor true b) true) (code_zero_state pm.0) in
    ap (next_state (suc j) m) (sym whole) ∙ next_split j m 1 0 some ∙ ap (λ b. 2 * 0 + digit b) turned
