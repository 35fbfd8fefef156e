-- The bits and nets that a port adds, one after another.
use Rattle.std.proofs.Common.{◌≡◌, ℕ, ◌+◌, ◌-◌, ◌<◌, ◌≤◌, zero, suc, List, [], ◌∷◌, ◌++◌, length, map, All, Bool, true, false, ◌||◌, Option, Some, None, if◌then◌else◌, refl, sym, ap, ◌∙◌, arith, append_assoc, length-append, subst}
use Rattle.std.proofs.lemmas.Bool.Decides.{nat_tests}
use Rattle.std.proofs.lemmas.List.Elements.{All-push, All-weaker, recursion_from_All, All-from_recursion, All-append}
use Rattle.std.proofs.lemmas.List.FromFn.{length-range_with_len}
use Rattle.std.specs.List.{AllByRecursion, range_with_len, list_any}
use Rattle.bb_base.specs.declared.variable.Variable.{Variable}
use Rattle.bb_base.specs.declared.variable.BitName.{BitName}
use Rattle.bb_base.specs.Variables.{is_port, range_width, places_but, bit_at, bit_eq}
use Rattle.bb_base.specs.Building.{port_bits, IsEarlier}
use Rattle.bb_base.proofs.Lists.{map_join, length_map}

-- a range with one more number
pub range_push : (from n : ℕ) → range_with_len from (suc n) ≡ range_with_len from n ++ (from + n) ∷ []
range_push from zero = ap (λ k. k ∷ []) (omega arith)
range_push from (suc n) =
    let e : from + 1 + n ≡ from + suc n = omega arith in
    ap (λ ks. from ∷ ks) (range_push (from + 1) n ∙ ap (λ k. range_with_len (from + 1) n ++ k ∷ []) e)

range_up_to : (from at : ℕ) → from ≤ at → range_with_len from (at + 1 - from) ≡ range_with_len from (at - from) ++ at ∷ []
range_up_to from at order =
    let e : at + 1 - from ≡ suc (at - from) = omega arith in
    let f : from + (at - from) ≡ at = omega arith in
    ap (range_with_len from) e ∙ range_push from (at - from) ∙ ap (λ k. range_with_len from (at - from) ++ k ∷ []) f

pub nets_more : (old nets new : List ℕ) (from at : ℕ) → from ≤ at → nets ≡ old ++ range_with_len from (at - from) → new ≡ nets ++ at ∷ [] → new ≡ old ++ range_with_len from (at + 1 - from)
nets_more old nets new from at order so_far added =
    added ∙ ap (λ ks. ks ++ at ∷ []) so_far ∙ append_assoc old (range_with_len from (at - from)) (at ∷ []) ∙ ap (λ ks. old ++ ks) (sym (range_up_to from at order))

pub bits_more : (number : ℕ) (old names new : List BitName) (from at : ℕ) → from ≤ at → names ≡ old ++ map (bit_at number) (range_with_len from (at - from)) → new ≡ names ++ bit_at number at ∷ []
    → new ≡ old ++ map (bit_at number) (range_with_len from (at + 1 - from))
bits_more number old names new from at order so_far added =
    let bits : List BitName = map (bit_at number) (range_with_len from (at - from)) in
    added ∙ ap (λ ks. ks ++ bit_at number at ∷ []) so_far ∙ append_assoc old bits (bit_at number at ∷ [])
    ∙ ap (λ ks. old ++ ks) (sym (ap (map (bit_at number)) (range_up_to from at order) ∙ map_join (bit_at number) (range_with_len from (at - from)) (at ∷ [])))

-- a bit behind those that stand isn't among them
none_equal : (number place : ℕ) (names : List BitName) → AllByRecursion (IsEarlier number place) names → list_any (bit_eq (bit_at number place)) names ≡ false
none_equal number place [] h = refl
none_equal number place (b ∷ names) h =
    let rest = none_equal number place names h.1 in
    let other : bit_eq (bit_at number place) b ≡ false = apart number place b h.0 in
    (λ i. other i || rest i)
  where
    apart : (number place : ℕ) (b : BitName) → IsEarlier number place b → bit_eq (bit_at number place) b ≡ false
    apart number place b h = grind (arith, nat_tests)

pub bit_pushed : (number place : ℕ) (names new : List BitName) → All (IsEarlier number place) names
    → new ≡ (if list_any (bit_eq (bit_at number place)) names then names else names ++ bit_at number place ∷ []) → new ≡ names ++ bit_at number place ∷ []
bit_pushed number place names new h e =
    let none = none_equal number place names (recursion_from_All (IsEarlier number place) names h) in
    e ∙ ap (λ (b : Bool). if b then names else names ++ bit_at number place ∷ []) none

-- and those with it stand before the next place
pub still_earlier : (number place : ℕ) (names new : List BitName) → All (IsEarlier number place) names → new ≡ names ++ bit_at number place ∷ [] → All (IsEarlier number (place + 1)) new
still_earlier number place names new h e =
    let wider : (b : BitName) → IsEarlier number place b → IsEarlier number (place + 1) b = λ b k. (λ same. omega (arith, k.0 same), k.1) in
    let here : IsEarlier number (place + 1) (bit_at number place) = (λ same. omega arith, omega arith) in
    subst (All (IsEarlier number (place + 1))) (sym e) (All-push (IsEarlier number (place + 1)) names (bit_at number place) (All-weaker (IsEarlier number place) (IsEarlier number (place + 1)) wider names h) here)

-- how many bits of a port become nets
all_places : (number width : ℕ) (b : Bool) (clock : Option ℕ) → b ≡ true → clock ≡ None → width ≡ length (if b then map (bit_at number) (places_but clock width) else [])
all_places number width true None h e = sym (length_map (bit_at number) (range_with_len 0 width) ∙ length-range_with_len 0 width)
all_places number width true (Some place) h e = cc
all_places number width false clock h e = cc

pub port_count : (number : ℕ) (v : Variable) (clock : Option ℕ) → is_port v.role ≡ true → clock ≡ None → range_width v.range ≡ length (port_bits number v clock)
port_count number v clock h e = all_places number (range_width v.range) (is_port v.role) clock h e

but_one : (number width place : ℕ) (b : Bool) → b ≡ true → place < width → width - 1 ≡ length (if b then map (bit_at number) (places_but (Some place) width) else [])
but_one number width place true h within =
    let front = range_with_len 0 place in
    let back = range_with_len (place + 1) (width - (place + 1)) in
    omega (arith, length_map (bit_at number) (front ++ back), length-append front back, length-range_with_len 0 place, length-range_with_len (place + 1) (width - (place + 1)))
but_one number width place false h within = cc

pub clocked_count : (number place : ℕ) (v : Variable) (clock : Option ℕ) → is_port v.role ≡ true → clock ≡ Some place → place < range_width v.range → range_width v.range - 1 ≡ length (port_bits number v clock)
clocked_count number place v clock h e within =
    subst (λ o. range_width v.range - 1 ≡ length (port_bits number v o)) (sym e) (but_one number (range_width v.range) place (is_port v.role) h within)

-- the bits of the first places stand before the next place
first_places : (number place from n : ℕ) → from + n ≤ place → AllByRecursion (IsEarlier number place) (map (bit_at number) (range_with_len from n))
first_places number place from zero h = tt
first_places number place from (suc n) h = ((λ same. omega arith, omega arith), first_places number place (from + 1) n (omega arith))

pub earlier_after : (number place : ℕ) (old new : List BitName) → All (λ b. b.variable < number) old → new ≡ old ++ map (bit_at number) (range_with_len 0 (place - 0)) → All (IsEarlier number (place + 1)) new
earlier_after number place old new h e =
    let before : (b : BitName) → b.variable < number → IsEarlier number (place + 1) b = λ b less. (λ same. omega arith, omega arith) in
    subst (All (IsEarlier number (place + 1))) (sym e)
    (All-append (IsEarlier number (place + 1)) old (map (bit_at number) (range_with_len 0 (place - 0))) (All-weaker (λ b. b.variable < number) (IsEarlier number (place + 1)) before old h)
    (All-from_recursion (IsEarlier number (place + 1)) (map (bit_at number) (range_with_len 0 (place - 0))) (first_places number (place + 1) 0 (place - 0) (omega arith))))
