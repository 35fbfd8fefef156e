-- Marks on the bits of variables.
use Rattle.std.proofs.Common.{◌≡◌, ◌∙◌, ℕ, ◌+◌, ◌<◌, ◌≤◌, zero, suc, List, [], ◌∷◌, ◌++◌, drop, cond, Bool, true, false, ◌&&◌, ◌||◌, nat_eq, refl, sym, ap, arith, slice_get, Some, min, ◌^◌, ◌-◌}
use Rattle.std.proofs.lemmas.Bool.Decides.{nat_tests}
use Rattle.std.proofs.lemmas.List.Folds.{list_any-append}
use Rattle.std.specs.Prelude.{nat_le, nat_lt}
use Rattle.std.specs.List.{range_with_len}
use Rattle.bb_base.specs.Variables.{Entry, range_width}
use Rattle.bb_base.specs.declared.variable.Role.{Role}
use Rattle.bb_drive.specs.Nets.{bits_from, has_bit}
use Rattle.bb_drive.specs.Origins.{is_marked}

-- the bits of a range
pub range_has : (first width b : ℕ) → has_bit (range_with_len first width) b ≡ (nat_le first b && nat_lt b (first + width))
range_has first zero b = grind (arith, nat_tests)
range_has first (suc width) b = let rest = range_has (first + 1) width b in grind (arith, nat_tests, rest)

-- a range that is cut off at the end of the table has the same bits there
pub range_end :
    (first width count end bit b : ℕ) → b < count → count < 2 ^ 32 → end ≡ min (min (first + width) (2 ^ 64 - 1)) count → (first ≤ end → bit ≤ end) → end ≤ bit
    → (nat_le first b && nat_lt b bit) ≡ has_bit (range_with_len first width) b
range_end first width count end bit b small few is below above = by (nat_le first end) refl ∙ sym (range_has first width b)
  where
    by : (t : Bool) → nat_le first end ≡ t → (nat_le first b && nat_lt b bit) ≡ (nat_le first b && nat_lt b (first + width))
    by true e =
        let start : first ≤ end = grind (arith, nat_tests) in
        let same : bit ≡ end = omega (arith, below start) in
        let cut : end ≡ min (first + width) count = omega arith in
        grind (arith, nat_tests)
    by false e =
        let start : end < first = grind (arith, nat_tests) in
        let none : b < first = omega arith in
        grind (arith, nat_tests)

-- bits before the first one are none of the variables'
none_before : (passes : Role → Bool) (first : ℕ) (vs : List Entry) (b : ℕ) → b < first → has_bit (bits_from passes first vs) b ≡ false
none_before passes first [] b small = refl
none_before passes first (v ∷ vs) b small =
    list_any-append (nat_eq b) (cond (passes v.1.role) (range_with_len first (range_width v.1.range)) []) (bits_from passes (first + range_width v.1.range) vs)
    ∙ (ap (λ t. has_bit (cond (passes v.1.role) (range_with_len first (range_width v.1.range)) []) b || t) (none_before passes (first + range_width v.1.range) vs b (omega arith)) ∙ by (passes v.1.role))
  where
    here : has_bit (range_with_len first (range_width v.1.range)) b ≡ false
    here = let h = range_has first (range_width v.1.range) b in grind (arith, nat_tests, h)

    by : (t : Bool) → (has_bit (cond t (range_with_len first (range_width v.1.range)) []) b || false) ≡ false
    by true = ap (λ t. t || false) here
    by false = refl

-- the next variable's bits, then those behind it
bits_at : (passes : Role → Bool) (first : ℕ) (vs : List Entry) (i : ℕ) (v : Entry) → slice_get vs i ≡ Some v
    → bits_from passes first (drop i vs) ≡ cond (passes v.1.role) (range_with_len first (range_width v.1.range)) [] ++ bits_from passes (first + range_width v.1.range) (drop (i + 1) vs)
bits_at passes first [] i v h = cc
bits_at passes first (e ∷ vs) zero v h = ap (λ (x : Entry). cond (passes x.1.role) (range_with_len first (range_width x.1.range)) [] ++ bits_from passes (first + range_width x.1.range) vs) (same e v h)
  where
    same : (a b : Entry) → Some a ≡ Some b → a ≡ b
    same a b e = cc
bits_at passes first (e ∷ vs) (suc i) v h =
    let k : suc i + 1 ≡ suc (i + 1) = omega arith in
    bits_at passes first vs i v h ∙ ap (λ n. cond (passes v.1.role) (range_with_len first (range_width v.1.range)) [] ++ bits_from passes (first + range_width v.1.range) (drop n (e ∷ vs))) (sym k)

-- a number that has no room is past all bits of the table
clipped : (passes : Role → Bool) (first width : ℕ) (vs : List Entry) (b : ℕ) → b < 2 ^ 32 → has_bit (bits_from passes (min (2 ^ 64 - 1) (first + width)) vs) b ≡ has_bit (bits_from passes (first + width) vs) b
clipped passes first width vs b small = by (nat_lt (first + width) (2 ^ 64)) refl
  where
    by : (t : Bool) → nat_lt (first + width) (2 ^ 64) ≡ t → has_bit (bits_from passes (min (2 ^ 64 - 1) (first + width)) vs) b ≡ has_bit (bits_from passes (first + width) vs) b
    by true e = let same : min (2 ^ 64 - 1) (first + width) ≡ first + width = grind (arith, nat_tests) in ap (λ n. has_bit (bits_from passes n vs) b) same
    by false e =
        let far : b < first + width = grind (arith, nat_tests) in
        let far_too : b < min (2 ^ 64 - 1) (first + width) = grind (arith, nat_tests) in
        none_before passes (min (2 ^ 64 - 1) (first + width)) vs b far_too ∙ sym (none_before passes (first + width) vs b far)

pub role_step :
    (passes : Role → Bool) (vs : List Entry) (i first next : ℕ) (v : Entry) (before after : List Bool) (b : ℕ) (all : Bool) → slice_get vs i ≡ Some v
    → next ≡ min (2 ^ 64 - 1) (first + range_width v.1.range) → b < 2 ^ 32
    → is_marked after b ≡ (is_marked before b || has_bit (cond (passes v.1.role) (range_with_len first (range_width v.1.range)) []) b)
    → (is_marked before b || has_bit (bits_from passes first (drop i vs)) b) ≡ all → (is_marked after b || has_bit (bits_from passes next (drop (i + 1) vs)) b) ≡ all
role_step passes vs i first next v before after b all at is small gained was =
    let split = ap (λ bs. has_bit bs b) (bits_at passes first vs i v at)
    ∙ list_any-append (nat_eq b) (cond (passes v.1.role) (range_with_len first (range_width v.1.range)) []) (bits_from passes (first + range_width v.1.range) (drop (i + 1) vs)) in
    let rest = ap (λ n. has_bit (bits_from passes n (drop (i + 1) vs)) b) is ∙ clipped passes first (range_width v.1.range) (drop (i + 1) vs) b small in
    by (is_marked before b) (has_bit (cond (passes v.1.role) (range_with_len first (range_width v.1.range)) []) b) (has_bit (bits_from passes (first + range_width v.1.range) (drop (i + 1) vs)) b)
    (is_marked after b) (has_bit (bits_from passes next (drop (i + 1) vs)) b) (has_bit (bits_from passes first (drop i vs)) b) gained rest split was
  where
    by : (p q r s t u : Bool) → s ≡ (p || q) → t ≡ r → u ≡ (q || r) → (p || u) ≡ all → (s || t) ≡ all
    by true q r s t u gained rest split was = ap (λ x. x || t) gained ∙ was
    by false q r s t u gained rest split was = ap (λ x. x || t) gained ∙ (ap (λ x. q || x) rest ∙ (sym split ∙ was))

-- nothing is left where the next variable's first bit is past the table
pub role_past :
    (passes : Role → Bool) (vs : List Entry) (first b : ℕ) (marks : List Bool) (all : Bool) → b < first → (is_marked marks b || has_bit (bits_from passes first vs) b) ≡ all → is_marked marks b ≡ all
role_past passes vs first b marks all small was = by (is_marked marks b) (sym (ap (λ t. is_marked marks b || t) (none_before passes first vs b small)) ∙ was)
  where
    by : (p : Bool) → (p || false) ≡ all → p ≡ all
    by true h = h
    by false h = h
