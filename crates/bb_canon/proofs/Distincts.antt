-- Bits of which no two are one.
use Rattle.std.proofs.Common.{◌≡◌, ◌≢◌, ℕ, ◌+◌, ◌≤◌, ◌<◌, ◌==◌, List, [], ◌∷◌, ◌++◌, length, map, Bool, true, false, ◌||◌, nat_eq, AllPairs, Contains, get_or, count_by, cond, Decides, refl, sym, ap, ◌∙◌, arith}
use Rattle.std.specs.List.{AllByRecursion, list_any, IsDistinct}
use Rattle.std.specs.Cmp.{IsEquivalence}
use Rattle.std.proofs.lemmas.Map.Keys.{IsDistinct-push}
use Rattle.std.proofs.lemmas.Map.Made.{length-le_from_is_member, AllPairs-from_IsDistinct, IsDistinct-from_AllPairs}
use Rattle.std.proofs.lemmas.Map.Views.{list_any-from_Contains}
use Rattle.std.proofs.lemmas.Bool.Decides.{nat_tests}
use Rattle.std.proofs.lemmas.List.Sums.{sum_by-cons}
use Rattle.bb_base.specs.declared.variable.BitName.{BitName}
use Rattle.bb_base.specs.Variables.{bit_eq}
use Rattle.bb_base.proofs.BitLemmas.{same_bits, bit_eq_itself}
use Rattle.bb_base.proofs.Distinct.{one_place}
use Rattle.bb_base.proofs.Lists.{all_join}
use Rattle.bb_base.specs.Net.{times}
use Rattle.bb_base.proofs.TimesLemmas.{times_head}

bit_eq_turn : (a b : BitName) → bit_eq a b ≡ bit_eq b a
bit_eq_turn a b = grind (arith, nat_tests)

bit_laws : IsEquivalence bit_eq
bit_laws = record { refl = bit_eq_itself; symm = bit_eq_turn; congr = λ x y z e. ap (λ w. bit_eq w z) (same_bits x y e) }

bit_decides : (a b : BitName) → Decides (bit_eq a b) (a ≡ b)
bit_decides a b = (same_bits a b, λ e. ap (bit_eq a) (sym e) ∙ bit_eq_itself a)

-- bits that differ by the test are not alike
pub apart_bits : (bs : List BitName) → IsDistinct bit_eq bs → AllPairs (λ a b. a ≢ b) bs
apart_bits bs h = AllPairs-from_IsDistinct bit_decides bs h

-- another bit behind bits that it isn't one of
pub alike_push : (bs : List BitName) (x : BitName) → AllPairs (λ a b. a ≢ b) bs → list_any (bit_eq x) bs ≡ false → AllPairs (λ a b. a ≢ b) (bs ++ x ∷ [])
alike_push bs x h k = apart_bits (bs ++ x ∷ []) (IsDistinct-push bit_laws bs x (IsDistinct-from_AllPairs bit_decides bs h) k)

-- how often a bit stands among bits
abbrev pub stands : BitName → List BitName → ℕ
stands b bs = count_by (λ c. bit_eq b c) bs

abbrev none : BitName
none = record { variable = 0; place = 0 }

test_same : (names : List BitName) (m k : ℕ) → AllPairs (λ a b. a ≢ b) names → m < length names → k < length names → (k == m) ≡ bit_eq (get_or names m none) (get_or names k none)
test_same names m k h p q = go (nat_eq k m) (bit_eq (get_or names m none) (get_or names k none)) refl refl
  where
    go : (x y : Bool) → nat_eq k m ≡ x → bit_eq (get_or names m none) (get_or names k none) ≡ y → x ≡ y
    go true true e f = refl
    go false false e f = refl
    go true false e f =
        let same : k ≡ m = grind (arith, nat_tests) in
        cc (sym (bit_eq_itself (get_or names m none)) ∙ ap (λ i. bit_eq (get_or names m none) (get_or names i none)) (sym same) ∙ f)
    go false true e f =
        let same : m ≡ k = one_place (λ b. b) names none h m k p q (same_bits (get_or names m none) (get_or names k none) f) in
        let eq : nat_eq k m ≡ true = grind (arith, nat_tests) in
        cc (sym e ∙ eq)

-- a net stands as often among nets as its bit among their bits
pub times_stands : (names : List BitName) (m : ℕ) (nets : List ℕ) → AllPairs (λ a b. a ≢ b) names → m < length names → AllByRecursion (λ k. k < length names) nets → times m nets ≡ stands (get_or names m none) (map (λ k. get_or names k none) nets)
times_stands names m [] h p all = refl
times_stands names m (k ∷ ks) h p all =
    let bit : BitName = get_or names m none in
    times_head m k ks ∙ (λ i. cond (test_same names m k h p all.0 i) 1 0 + times_stands names m ks h p all.1 i) ∙ sym (sum_by-cons (λ c. cond (bit_eq bit c) 1 0) (get_or names k none) (map (λ j. get_or names j none) ks))

-- two lists of bits, where none of the first stands in the second
pub distinct_join : (xs ys : List BitName) → IsDistinct bit_eq xs → IsDistinct bit_eq ys → AllByRecursion (λ b. AllByRecursion (λ c. bit_eq b c ≡ false) ys) xs → IsDistinct bit_eq (xs ++ ys)
unfolding IsDistinct
distinct_join [] ys h k l = k
distinct_join (x ∷ xs) ys h k l = (all_join (λ c. bit_eq x c ≡ false) xs ys h.0 l.0, distinct_join xs ys h.1 k l.1)

within_any : (q : BitName) (xs ys : List BitName) → AllByRecursion (Contains ys) xs → list_any (bit_eq q) xs ≡ true → list_any (bit_eq q) ys ≡ true
within_any q [] ys h e = cc
within_any q (x ∷ xs) ys h e = go (bit_eq q x) refl e (λ f. within_any q xs ys h.1 f)
  where
    go : (t : Bool) → bit_eq q x ≡ t → (t || list_any (bit_eq q) xs) ≡ true → (list_any (bit_eq q) xs ≡ true → list_any (bit_eq q) ys ≡ true) → list_any (bit_eq q) ys ≡ true
    go true t f rec = ap (λ z. list_any (bit_eq z) ys) (same_bits q x t) ∙ list_any-from_Contains bit_laws x ys h.0
    go false t f rec = rec f

-- bits of a list, no two alike, are at most as many as it has
pub alike_few : (xs ys : List BitName) → AllPairs (λ a b. a ≢ b) xs → AllByRecursion (Contains ys) xs → length xs ≤ length ys
alike_few xs ys h k = length-le_from_is_member bit_laws xs ys (IsDistinct-from_AllPairs bit_decides xs h) (λ q e. within_any q xs ys k e)
