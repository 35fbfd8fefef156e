-- The names of bits, by the variables that they stand in.
use Rattle.std.proofs.Common.{◌≡◌, ℕ, ◌+◌, ◌-◌, ◌<◌, ◌≤◌, suc, nat_eq, nat_lt, List, [], ◌∷◌, ◌++◌, length, take, Bool, true, false, ◌||◌, if◌then◌else◌, refl, sym, ap, ◌∙◌, arith}
use Rattle.std.proofs.lemmas.Bool.Decides.{nat_tests}
use Rattle.std.proofs.lemmas.List.Folds.{list_any-append, list_any_at}
use Rattle.std.proofs.lemmas.List.FromFn.{length-range_with_len, get_or-range_with_len}
use Rattle.std.specs.List.{range_with_len}
use Rattle.bb_base.specs.declared.variable.BitName.{BitName}
use Rattle.bb_base.specs.declared.variable.Role.{Role}
use Rattle.bb_base.specs.Variables.{Entry, range_width, bit_at, bit_count}
use Rattle.bb_drive.specs.Nets.{bit_name, bits_from, has_bit}

pub bit_count_join : (xs ys : List Entry) → bit_count (xs ++ ys) ≡ bit_count xs + bit_count ys
bit_count_join [] ys = omega arith
bit_count_join (x ∷ xs) ys = omega (arith, bit_count_join xs ys)

-- a bit of the first variables has one of their numbers
pub name_below : (before rest : List Entry) (n b : ℕ) → b < bit_count before → (bit_name n (before ++ rest) b).variable < n + length before
name_below [] rest n b h = absurd (omega arith)
name_below (v ∷ vs) rest n b h = by (nat_lt b (range_width v.1.range)) refl (name_below vs rest (suc n) (b - range_width v.1.range))
  where
    by : (t : Bool) → nat_lt b (range_width v.1.range) ≡ t → (b - range_width v.1.range < bit_count vs → (bit_name (suc n) (vs ++ rest) (b - range_width v.1.range)).variable < suc n + length vs)
        → (if t then record { variable = n; place = b } else bit_name (suc n) (vs ++ rest) (b - range_width v.1.range)).variable < n + suc (length vs)
    by true t rec = omega arith
    by false t rec =
        let past : range_width v.1.range ≤ b = grind (arith, nat_tests) in
        omega (arith, rec (omega arith))

-- the bits of a variable are named by its number and their places
pub name_here : (before : List Entry) (e : Entry) (after : List Entry) (n p : ℕ) → p < range_width e.1.range → bit_name n (before ++ e ∷ after) (bit_count before + p) ≡ bit_at (n + length before) p
name_here [] e after n p h = by (nat_lt (0 + p) (range_width e.1.range)) refl
  where
    by : (t : Bool) → nat_lt (0 + p) (range_width e.1.range) ≡ t → (if t then record { variable = n; place = 0 + p } else bit_name (suc n) after (0 + p - range_width e.1.range)) ≡ bit_at (n + 0) p
    by true t =
        let number : n ≡ n + 0 = omega arith in
        let place : 0 + p ≡ p = omega arith in
        λ i. record { variable = number i; place = place i }
    by false t = absurd (grind (arith, nat_tests))
name_here (v ∷ vs) e after n p h = by (nat_lt (range_width v.1.range + bit_count vs + p) (range_width v.1.range)) refl (name_here vs e after (suc n) p h)
  where
    by : (t : Bool) → nat_lt (range_width v.1.range + bit_count vs + p) (range_width v.1.range) ≡ t → bit_name (suc n) (vs ++ e ∷ after) (bit_count vs + p) ≡ bit_at (suc n + length vs) p
        → (if t then record { variable = n; place = range_width v.1.range + bit_count vs + p } else bit_name (suc n) (vs ++ e ∷ after) (range_width v.1.range + bit_count vs + p - range_width v.1.range)) ≡ bit_at (n + suc (length vs)) p
    by true t rec = absurd (grind (arith, nat_tests))
    by false t rec =
        let rest : range_width v.1.range + bit_count vs + p - range_width v.1.range ≡ bit_count vs + p = omega arith in
        let number : suc n + length vs ≡ n + suc (length vs) = omega arith in
        ap (bit_name (suc n) (vs ++ e ∷ after)) rest ∙ rec ∙ ap (λ k. bit_at k p) number

pub name_least : (vs : List Entry) (n b : ℕ) → n ≤ (bit_name n vs b).variable
name_least [] n b = omega arith
name_least (v ∷ vs) n b = by (nat_lt b (range_width v.1.range)) (name_least vs (suc n) (b - range_width v.1.range))
  where
    by : (t : Bool) → suc n ≤ (bit_name (suc n) vs (b - range_width v.1.range)).variable → n ≤ (if t then record { variable = n; place = b } else bit_name (suc n) vs (b - range_width v.1.range)).variable
    by true rec = omega arith
    by false rec = omega (arith, rec)

-- the number of a bit, back from its name
abbrev number_of : List Entry → ℕ → BitName → ℕ
number_of vs n bit = bit_count (take (bit.variable - n) vs) + bit.place

number_back : (vs : List Entry) (n b : ℕ) → number_of vs n (bit_name n vs b) ≡ b
number_back [] n b =
    let none : n - n ≡ 0 = omega arith in
    omega (arith, ap (λ k. bit_count (take k [])) none)
number_back (v ∷ vs) n b = by (nat_lt b (range_width v.1.range)) refl (number_back vs (suc n) (b - range_width v.1.range))
  where
    by : (t : Bool) → nat_lt b (range_width v.1.range) ≡ t → number_of vs (suc n) (bit_name (suc n) vs (b - range_width v.1.range)) ≡ b - range_width v.1.range
        → number_of (v ∷ vs) n (if t then record { variable = n; place = b } else bit_name (suc n) vs (b - range_width v.1.range)) ≡ b
    by true t rec =
        let none : n - n ≡ 0 = omega arith in
        omega (arith, ap (λ k. bit_count (take k (v ∷ vs))) none)
    by false t rec =
        let past : range_width v.1.range ≤ b = grind (arith, nat_tests) in
        let bit : BitName = bit_name (suc n) vs (b - range_width v.1.range) in
        let least : suc n ≤ bit.variable = name_least vs (suc n) (b - range_width v.1.range) in
        let one : bit.variable - n ≡ suc (bit.variable - suc n) = omega arith in
        omega (arith, ap (λ k. bit_count (take k (v ∷ vs))) one, rec)

-- no two bits have one name
pub one_name : (vs : List Entry) (a b : ℕ) → bit_name 0 vs a ≡ bit_name 0 vs b → a ≡ b
one_name vs a b h = sym (number_back vs 0 a) ∙ ap (number_of vs 0) h ∙ number_back vs 0 b

-- a number in a range
pub has_range : (from n b : ℕ) → from ≤ b → b < from + n → has_bit (range_with_len from n) b ≡ true
has_range from n b low high =
    let at = get_or-range_with_len from n (b - from) 0 (omega arith) in
    list_any_at (nat_eq b) (range_with_len from n) (b - from) 0 (omega (arith, length-range_with_len from n)) (grind (arith, nat_tests, at))

pub or_left : (a b : Bool) → a ≡ true → (a || b) ≡ true
or_left true b h = refl
or_left false b h = cc

pub or_right : (a b : Bool) → b ≡ true → (a || b) ≡ true
or_right true b h = refl
or_right false b h = h

-- the bits of a variable whose role passes are among those of all
pub bit_among : (passes : Role → Bool) (before : List Entry) (e : Entry) (after : List Entry) (first p : ℕ) → passes e.1.role ≡ true → p < range_width e.1.range
    → has_bit (bits_from passes first (before ++ e ∷ after)) (first + (bit_count before + p)) ≡ true
bit_among passes [] e after first p port h =
    let at : first + (0 + p) ≡ first + p = omega arith in
    let bits : List ℕ = bits_from passes (first + range_width e.1.range) after in
    ap (has_bit ((if passes e.1.role then range_with_len first (range_width e.1.range) else []) ++ bits)) at
    ∙ ap (λ (b : Bool). has_bit ((if b then range_with_len first (range_width e.1.range) else []) ++ bits) (first + p)) port
    ∙ list_any-append (nat_eq (first + p)) (range_with_len first (range_width e.1.range)) bits
    ∙ or_left (has_bit (range_with_len first (range_width e.1.range)) (first + p)) (has_bit bits (first + p)) (has_range first (range_width e.1.range) (first + p) (omega arith) (omega arith))
bit_among passes (v ∷ vs) e after first p port h =
    let at : first + (range_width v.1.range + bit_count vs + p) ≡ first + range_width v.1.range + (bit_count vs + p) = omega arith in
    let here : List ℕ = if passes v.1.role then range_with_len first (range_width v.1.range) else [] in
    let bits : List ℕ = bits_from passes (first + range_width v.1.range) (vs ++ e ∷ after) in
    let b : ℕ = first + range_width v.1.range + (bit_count vs + p) in
    ap (has_bit (here ++ bits)) at ∙ list_any-append (nat_eq b) here bits ∙ or_right (has_bit here b) (has_bit bits b) (bit_among passes vs e after (first + range_width v.1.range) p port h)
