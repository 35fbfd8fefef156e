-- Ranges of numbers, cut and filtered.
use Rattle.std.proofs.Common.{◌≡◌, ℕ, ◌+◌, ◌-◌, ◌<◌, ◌≤◌, zero, suc, nat_eq, not, ◌∷◌, ◌++◌, map, filter, Bool, true, false, cond, Option, Some, None, refl, ap, ◌∙◌, arith}
use Rattle.std.proofs.lemmas.Bool.Decides.{nat_tests}
use Rattle.std.proofs.lemmas.List.Elements.{filter-append}
use Rattle.std.specs.List.{range_with_len}
use Rattle.bb_base.specs.Variables.{places_but}
use Rattle.bb_assemble.specs.Assembling.{is_clock_bit}

-- a range in two parts
pub range_join : (from a b : ℕ) → range_with_len from (a + b) ≡ range_with_len from a ++ range_with_len (from + a) b
range_join from zero b =
    let e : 0 + b ≡ b = omega arith in
    let f : from ≡ from + 0 = omega arith in
    ap (range_with_len from) e ∙ ap (λ k. range_with_len k b) f
range_join from (suc a) b =
    let e : suc a + b ≡ suc (a + b) = omega arith in
    let f : from + 1 + a ≡ from + suc a = omega arith in
    ap (range_with_len from) e ∙ ap (λ ks. from ∷ ks) (range_join (from + 1) a b ∙ ap (λ k. range_with_len (from + 1) a ++ range_with_len k b) f)

-- a range that begins elsewhere
pub range_moved : (by from n : ℕ) → map (λ p. by + p) (range_with_len from n) ≡ range_with_len (by + from) n
range_moved by from zero = refl
range_moved by from (suc n) =
    let e : by + (from + 1) ≡ by + from + 1 = omega arith in
    ap (λ ks. (by + from) ∷ ks) (range_moved by (from + 1) n ∙ ap (λ k. range_with_len k n) e)

-- filters of a range by tests that agree on it
pub filter_range : (p q : ℕ → Bool) (from n : ℕ) → ((k : ℕ) → from ≤ k → k < from + n → p k ≡ q k) → filter p (range_with_len from n) ≡ filter q (range_with_len from n)
filter_range p q from zero h = refl
filter_range p q from (suc n) h =
    let rest : filter p (range_with_len (from + 1) n) ≡ filter q (range_with_len (from + 1) n) = filter_range p q (from + 1) n (λ k low high. h k (omega arith) (omega arith)) in
    let here : p from ≡ q from = h from (omega arith) (omega arith) in
    λ i. cond (here i) (from ∷ rest i) (rest i)

pub filter_whole : (from n : ℕ) → filter (λ k. true) (range_with_len from n) ≡ range_with_len from n
filter_whole from zero = refl
filter_whole from (suc n) = ap (λ ks. from ∷ ks) (filter_whole (from + 1) n)

-- all places but the clock's
pub places_left : (place : Option ℕ) (width : ℕ) → ((p : ℕ) → place ≡ Some p → p < width) → filter (λ p. not (is_clock_bit place p)) (range_with_len 0 width) ≡ places_but place width
places_left None width h = filter_whole 0 width
places_left (Some p) width h =
    let within : p < width = h p refl in
    let e : width ≡ p + suc (width - (p + 1)) = omega arith in
    let zero_is : 0 + p ≡ p = omega arith in
    let front : filter (λ k. not (nat_eq p k)) (range_with_len 0 p) ≡ range_with_len 0 p =
    filter_range (λ k. not (nat_eq p k)) (λ k. true) 0 p (λ k low high. grind (arith, nat_tests)) ∙ filter_whole 0 p in
    let back : filter (λ k. not (nat_eq p k)) (range_with_len (p + 1) (width - (p + 1))) ≡ range_with_len (p + 1) (width - (p + 1)) =
    filter_range (λ k. not (nat_eq p k)) (λ k. true) (p + 1) (width - (p + 1)) (λ k low high. grind (arith, nat_tests)) ∙ filter_whole (p + 1) (width - (p + 1)) in
    let here : not (nat_eq p p) ≡ false = grind (arith, nat_tests) in
    ap (λ n. filter (λ k. not (nat_eq p k)) (range_with_len 0 n)) e ∙ ap (filter (λ k. not (nat_eq p k))) (range_join 0 p (suc (width - (p + 1))) ∙ ap (λ k. range_with_len 0 p ++ range_with_len k (suc (width - (p + 1)))) zero_is)
    ∙ filter-append (λ k. not (nat_eq p k)) (range_with_len 0 p) (p ∷ range_with_len (p + 1) (width - (p + 1)))
    ∙ (λ i. front i ++ cond (here i) (p ∷ back i) (back i))
