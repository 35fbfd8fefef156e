-- Counts of bits, and the bits that they find.
use Rattle.std.proofs.Common.{arith, ◌≡◌, ℕ, zero, suc, ◌+◌, ◌-◌, ◌<◌, ◌≤◌, min, drop, slice_get, slice_index, length, Bool, true, false, cond, List, [], ◌∷◌, ◌++◌, fold, refl, sym, ap, ◌∙◌}
use Rattle.std.specs.Prelude.{Some, nat_lt, find, filter}
use Rattle.std.specs.List.{range_with_len}
use Rattle.std.proofs.lemmas.Bool.Decides.{nat_tests}
use Rattle.std.proofs.lemmas.List.{length-set, set_past}
use Rattle.std.proofs.lemmas.List.Sums.{fold-append}
use Rattle.bb_base.specs.Variables.{Entry, range_width}
use Rattle.bb_base.specs.declared.variable.Role.{Role}
use Rattle.bb_drive.specs.Nets.{bits_from}
use Rattle.bb_drive.specs.Tallies.{tally}

-- ranges ----------------------------------------------------------------

one_less : (n k : ℕ) → k < n → n - k ≡ suc (n - (k + 1))
one_less n k h = omega arith

pub range_next : (n k : ℕ) → k < n → range_with_len k (n - k) ≡ k ∷ range_with_len (k + 1) (n - (k + 1))
range_next n k h = ap (range_with_len k) (one_less n k h)

-- a walk over the numbers below n
pub find_skip : (p : ℕ → Bool) (n k : ℕ) → k < n → p k ≡ false → find p (range_with_len (k + 1) (n - (k + 1))) ≡ find p (range_with_len k (n - k))
find_skip p n k h fails = sym (ap (find p) (range_next n k h) ∙ ap (λ b. cond b (Some k) (find p (range_with_len (k + 1) (n - (k + 1))))) fails)

pub filter_skip : (p : ℕ → Bool) (n k : ℕ) → k < n → p k ≡ false → filter p (range_with_len (k + 1) (n - (k + 1))) ≡ filter p (range_with_len k (n - k))
filter_skip p n k h fails =
    let rest : List ℕ = filter p (range_with_len (k + 1) (n - (k + 1))) in
    sym (ap (filter p) (range_next n k h) ∙ ap (λ b. cond b (k ∷ rest) rest) fails)

pub filter_keep : (p : ℕ → Bool) (n k : ℕ) → k < n → p k ≡ true → k ∷ filter p (range_with_len (k + 1) (n - (k + 1))) ≡ filter p (range_with_len k (n - k))
filter_keep p n k h holds =
    let rest : List ℕ = filter p (range_with_len (k + 1) (n - (k + 1))) in
    sym (ap (filter p) (range_next n k h) ∙ ap (λ b. cond b (k ∷ rest) rest) holds)

-- a number beyond all bits changes nothing -----------------------------------

pub length-tally : (counts : List ℕ) (bit : ℕ) → length (tally counts bit) ≡ length counts
length-tally counts bit = length-set counts bit (min 2 (slice_index counts bit + 1))

pub length-counted : (counts bits : List ℕ) → length (fold tally counts bits) ≡ length counts
length-counted counts [] = refl
length-counted counts (b ∷ bits) = length-counted (tally counts b) bits ∙ length-tally counts b

tally_past : (counts : List ℕ) (bit : ℕ) → length counts ≤ bit → tally counts bit ≡ counts
tally_past counts bit past = set_past counts bit (min 2 (slice_index counts bit + 1)) past

range_past : (counts : List ℕ) (first n : ℕ) → length counts ≤ first → fold tally counts (range_with_len first n) ≡ counts
range_past counts first zero past = refl
range_past counts first (suc n) past =
    ap (λ x. fold tally x (range_with_len (first + 1) n)) (tally_past counts first past) ∙ range_past counts (first + 1) n (omega arith)

bits_past : (passes : Role → Bool) (counts : List ℕ) (first : ℕ) (vs : List Entry) → length counts ≤ first → fold tally counts (bits_from passes first vs) ≡ counts
bits_past passes counts first [] past = refl
bits_past passes counts first (v ∷ vs) past = go (passes v.1.role) (bits_past passes counts (first + range_width v.1.range) vs (omega arith))
  where
    go : (b : Bool) → fold tally counts (bits_from passes (first + range_width v.1.range) vs) ≡ counts
        → fold tally counts (cond b (range_with_len first (range_width v.1.range)) [] ++ bits_from passes (first + range_width v.1.range) vs) ≡ counts
    go false rest = rest
    go true rest =
        fold-append tally counts (range_with_len first (range_width v.1.range)) (bits_from passes (first + range_width v.1.range) vs)
        ∙ (ap (λ x. fold tally x (bits_from passes (first + range_width v.1.range) vs)) (range_past counts first (range_width v.1.range) past) ∙ rest)

-- of a range only the bits before their end count
clipped : (counts : List ℕ) (first k w : ℕ) → k ≤ w → (k < w → length counts ≤ first + k) → fold tally counts (range_with_len first w) ≡ fold tally counts (range_with_len first k)
clipped counts first zero zero within past = refl
clipped counts first zero (suc w) within past = range_past counts first (suc w) (let h : length counts ≤ first + 0 = past (omega arith) in omega arith)
clipped counts first (suc k) zero within past = absurd (omega arith)
clipped counts first (suc k) (suc w) within past =
    clipped (tally counts first) (first + 1) k w (omega arith) (λ h. let l : length counts ≤ first + suc k = past (omega arith) in omega (arith, length-tally counts first))

-- where a sum of widths saturates nothing counts
saturated :
    (passes : Role → Bool) (counts : List ℕ) (next sum most : ℕ) (vs : List Entry) → length counts ≤ most → next ≡ min most sum
    → fold tally counts (bits_from passes sum vs) ≡ fold tally counts (bits_from passes next vs)
saturated passes counts next sum most vs fits is = go (nat_lt most sum) refl
  where
    go : (b : Bool) → nat_lt most sum ≡ b → fold tally counts (bits_from passes sum vs) ≡ fold tally counts (bits_from passes next vs)
    go true h =
        let over : most < sum = grind (arith, nat_tests, h) in
        bits_past passes counts sum vs (omega arith) ∙ sym (bits_past passes counts next vs (omega arith))
    go false h =
        let same : sum ≡ next = grind (arith, nat_tests, h) in
        ap (λ n. fold tally counts (bits_from passes n vs)) same

-- the next variable's bits
bits_next :
    (passes : Role → Bool) (es : List Entry) (i first : ℕ) (v : Entry) → slice_get es i ≡ Some v
    → bits_from passes first (drop i es) ≡ cond (passes v.1.role) (range_with_len first (range_width v.1.range)) [] ++ bits_from passes (first + range_width v.1.range) (drop (i + 1) es)
bits_next passes [] i first v h = cc
bits_next passes (e ∷ es) zero first v h =
    let same : e ≡ v = cc h in
    ap (λ x. cond (passes x.1.role) (range_with_len first (range_width x.1.range)) [] ++ bits_from passes (first + range_width x.1.range) es) same
bits_next passes (e ∷ es) (suc i) first v h =
    let k : suc i + 1 ≡ suc (i + 1) = omega arith in
    bits_next passes es i first v h
    ∙ ap (λ m. cond (passes v.1.role) (range_with_len first (range_width v.1.range)) [] ++ bits_from passes (first + range_width v.1.range) (drop m (e ∷ es))) (sym k)

-- what a variable of another role adds, and one of the role
pub role_other :
    (passes : Role → Bool) (counts : List ℕ) (es : List Entry) (i first next most : ℕ) (v : Entry) → slice_get es i ≡ Some v → passes v.1.role ≡ false → length counts ≤ most
    → next ≡ min most (first + range_width v.1.range)
    → fold tally counts (bits_from passes next (drop (i + 1) es)) ≡ fold tally counts (bits_from passes first (drop i es))
role_other passes counts es i first next most v at other fits is =
    let sum : ℕ = first + range_width v.1.range in
    sym (ap (fold tally counts) (bits_next passes es i first v at)
    ∙ (ap (λ b. fold tally counts (cond b (range_with_len first (range_width v.1.range)) [] ++ bits_from passes sum (drop (i + 1) es))) other
    ∙ saturated passes counts next sum most (drop (i + 1) es) fits is))

pub role_counted :
    (passes : Role → Bool) (counts : List ℕ) (es : List Entry) (i first next most : ℕ) (v : Entry) → slice_get es i ≡ Some v → passes v.1.role ≡ true → length counts ≤ most
    → next ≡ min most (first + range_width v.1.range)
    → fold tally (fold tally counts (range_with_len first (min next (length counts) - first))) (bits_from passes next (drop (i + 1) es)) ≡ fold tally counts (bits_from passes first (drop i es))
role_counted passes counts es i first next most v at one fits is =
    let w : ℕ = range_width v.1.range in
    let k : ℕ = min next (length counts) - first in
    let rest : List ℕ = bits_from passes next (drop (i + 1) es) in
    let here = clipped counts first k w (omega arith) (λ h. omega arith) in
    let counted : List ℕ = fold tally counts (range_with_len first w) in
    let long : length counted ≤ most = omega (arith, length-counted counts (range_with_len first w)) in
    sym (ap (fold tally counts) (bits_next passes es i first v at)
    ∙ (ap (λ b. fold tally counts (cond b (range_with_len first w) [] ++ bits_from passes (first + w) (drop (i + 1) es))) one
    ∙ (fold-append tally counts (range_with_len first w) (bits_from passes (first + w) (drop (i + 1) es))
    ∙ (saturated passes counted next (first + w) most (drop (i + 1) es) long is ∙ ap (λ x. fold tally x rest) here))))
