-- The numbers of bits, and what the reference to a bit names.
use Rattle.std.proofs.Common.{◌≡◌, ◌≢◌, ℕ, ◌+◌, ◌-◌, ◌<◌, ◌≤◌, zero, suc, List, [], ◌∷◌, Option, Some, None, Bool, true, false, ◌&&◌, ◌||◌, nat_le, nat_lt, AllPairs, slice_get, get_or, refl, sym, ap, ◌∙◌, arith, subst, if◌then◌else◌}
use Rattle.std.specs.List.{AllByRecursion}
use Rattle.std.specs.Option.{option_map}
use Rattle.std.specs.Map.{lookup}
use Rattle.std.specs.Str.{bytes_eq}
use Rattle.std.proofs.lemmas.Bool.Decides.{nat_tests}
use Rattle.std.proofs.lemmas.Option.{same_Some}
use Rattle.std.proofs.lemmas.List.Elements.{recursion_from_All}
use Rattle.bb_base.specs.declared.variable.BitName.{BitName}
use Rattle.bb_base.specs.Variables.{Entry, IsBit, bit_of, bit_in, range_width, index_at, bit_count}
use Rattle.bb_fault.specs.Firsts.{on_some}
use Rattle.bb_scope.specs.References.{distance, selected, ref_span}
use Rattle.bb_scope.specs.References.{first_number}
use Rattle.bb_scope.specs.References.{ref_bits}
use Rattle.bb_drive.specs.Nets.{bit_name}
use Rattle.bb_fault.proofs.Keys.{same_name, name_itself}
use Rattle.bb_canon_parse.specs.Printed.{reference}
use Rattle.bb_print.proofs.Sieves.{item_at}
use Rattle.bb_scope.specs.References.{is_in_range}
use Rattle.bb_scope.specs.References.{span_bits}

-- the number of the bit of this place of this variable
abbrev pub bit_number : List Entry → ℕ → ℕ → ℕ
bit_number [] i place = place
bit_number (v ∷ vs) zero place = place
bit_number (v ∷ vs) (suc i) place = range_width v.1.range + bit_number vs i place

abbrev pub number_of : List Entry → BitName → ℕ
number_of vs bit = bit_number vs bit.variable bit.place

-- no name is that of a variable before it
abbrev pub Differ : List Entry → Type 0
Differ [] = Unit {0}
Differ (v ∷ vs) = AllByRecursion (λ w. bytes_eq w.0 v.0 ≡ false) vs × Differ vs

pub other_names : (a b : List ℕ) → a ≢ b → bytes_eq b a ≡ false
other_names a b h = go (bytes_eq b a) refl
  where
    go : (t : Bool) → bytes_eq b a ≡ t → t ≡ false
    go false e = refl
    go true e = absurd (h (sym (same_name b a e)))

pub differ_from : (vs : List Entry) → AllPairs (λ v w. v.0 ≢ w.0) vs → Differ vs
differ_from [] h = tt
differ_from (v ∷ vs) h = (
  recursion_from_All (λ w. bytes_eq w.0 v.0 ≡ false) vs (λ j d less. other_names v.0 (get_or vs j d).0 (h 0 (suc j) d (omega arith) (omega arith))),
  differ_from vs (λ i j d less within. h (suc i) (suc j) d (omega arith) (omega arith)),
)

-- a bit's number is counted from its variable's first bit
pub first_is : (vs : List Entry) (i place : ℕ) (v : Entry) → Differ vs → slice_get vs i ≡ Some v → first_number vs v.0 + place ≡ bit_number vs i place
first_is [] i place v h at = cc
first_is (w ∷ ws) zero place v h at =
    let same : w ≡ v = same_Some w v at in
    let test : bytes_eq v.0 w.0 ≡ true = ap (λ (u : Entry). bytes_eq v.0 u.0) same ∙ name_itself v.0 in
    rw test (omega arith)
first_is (w ∷ ws) (suc i) place v h at =
    let test : bytes_eq v.0 w.0 ≡ false = item_at (λ (u : Entry). bytes_eq u.0 w.0 ≡ false) ws i v h.0 at in
    let rec = first_is ws i place v h.1 at in
    rw test (omega (arith, rec))

-- and leads back to it
pub name_again : (k : ℕ) (vs : List Entry) (i place : ℕ) (v : Entry) → slice_get vs i ≡ Some v → place < range_width v.1.range → bit_name k vs (bit_number vs i place) ≡ record { variable = k + i; place = place }
name_again k [] i place v at within = cc
name_again k (w ∷ ws) zero place v at within =
    let same : w ≡ v = same_Some w v at in
    let less : place < range_width w.1.range = subst (λ (u : Entry). place < range_width u.1.range) (sym same) within in
    let test : nat_lt place (range_width w.1.range) ≡ true = grind (arith, nat_tests) in
    let number : k ≡ k + 0 = omega arith in
    rw test (λ j. record { variable = number j; place = place })
name_again k (w ∷ ws) (suc i) place v at within =
    let n : ℕ = bit_number ws i place in
    let width : ℕ = range_width w.1.range in
    let test : nat_lt (range_width w.1.range + bit_number ws i place) (range_width w.1.range) ≡ false = not_less width n in
    let back : (range_width w.1.range + bit_number ws i place) - range_width w.1.range ≡ bit_number ws i place = gone width n in
    let number : suc k + i ≡ k + suc i = omega arith in
    let rec : bit_name (suc k) ws (bit_number ws i place) ≡ record { variable = suc k + i; place = place } = name_again (suc k) ws i place v at within in
    rw test (ap (bit_name (suc k) ws) back ∙ rec ∙ (λ j. record { variable = number j; place = place }))
  where
    not_less : (a b : ℕ) → nat_lt (a + b) a ≡ false
    not_less a b = grind (arith, nat_tests)

    gone : (a b : ℕ) → (a + b) - a ≡ b
    gone a b = omega arith

pub number_below : (vs : List Entry) (i place : ℕ) (v : Entry) → slice_get vs i ≡ Some v → place < range_width v.1.range → bit_number vs i place < bit_count vs
number_below [] i place v at within = cc
number_below (w ∷ ws) zero place v at within =
    let same : w ≡ v = same_Some w v at in
    let less : place < range_width w.1.range = subst (λ (u : Entry). place < range_width u.1.range) (sym same) within in
    omega (arith, less)
number_below (w ∷ ws) (suc i) place v at within =
    let rec = number_below ws i place v at within in
    omega (arith, rec)

pub bit_again : (vs : List Entry) (bit : BitName) → IsBit vs bit → bit_name 0 vs (number_of vs bit) ≡ bit
bit_again vs bit h =
    let number : 0 + bit.variable ≡ bit.variable = omega arith in
    name_again 0 vs bit.variable bit.place h.entry h.stands h.place ∙ (λ j. record { variable = number j; place = bit.place })

pub bit_below : (vs : List Entry) (bit : BitName) → IsBit vs bit → number_of vs bit < bit_count vs
bit_below vs bit h = number_below vs bit.variable bit.place h.entry h.stands h.place

-- bits with one number are one
pub one_number : (vs : List Entry) (b c : BitName) → IsBit vs b → IsBit vs c → number_of vs b ≡ number_of vs c → b ≡ c
one_number vs b c h k e = sym (bit_again vs b h) ∙ ap (bit_name 0 vs) e ∙ bit_again vs c k

-- a variable is found by its name
pub found_is : (vs : List Entry) (i : ℕ) (v : Entry) → Differ vs → slice_get vs i ≡ Some v → lookup (bytes_eq v.0) vs ≡ Some v.1
found_is [] i v h at = cc
found_is (w ∷ ws) zero v h at =
    let same : w ≡ v = same_Some w v at in
    let test : bytes_eq v.0 w.0 ≡ true = ap (λ (u : Entry). bytes_eq v.0 u.0) same ∙ name_itself v.0 in
    rw test (ap (λ (u : Entry). Some u.1) same)
found_is (w ∷ ws) (suc i) v h at =
    let test : bytes_eq v.0 w.0 ≡ false = item_at (λ (u : Entry). bytes_eq u.0 w.0 ≡ false) ws i v h.0 at in
    rw test (found_is ws i v h.1 at)

-- an index names its place
place_inside : (r : ℕ × ℕ) (place : ℕ) → place < range_width (Some r) → (is_in_range r (index_at r place) ≡ true) × (distance r.0 (index_at r place) ≡ place)
place_inside r place h = go (nat_le r.0 r.1) refl
  where
    go : (b : Bool) → nat_le r.0 r.1 ≡ b → (is_in_range r (if b then r.0 + place else r.0 - place) ≡ true) × (distance r.0 (if b then r.0 + place else r.0 - place) ≡ place)
    go true t =
        let up : r.0 ≤ r.1 = grind (arith, nat_tests) in
        let small : place ≤ r.1 - r.0 = omega (arith, h, up) in
        let one : nat_le r.0 (r.0 + place) ≡ true = grind (arith, nat_tests) in
        let two : nat_le (r.0 + place) r.1 ≡ true = grind (arith, nat_tests) in
        (rw (one, two) refl, omega arith)
    go false t =
        let down : r.1 < r.0 = grind (arith, nat_tests) in
        let small : place ≤ r.0 - r.1 = omega (arith, h, down) in
        let one : nat_le r.1 (r.0 - place) ≡ true = grind (arith, nat_tests) in
        let two : nat_le (r.0 - place) r.0 ≡ true = grind (arith, nat_tests) in
        (rw (one, two) (or_true (nat_le r.0 (r.0 - place) && nat_le (r.0 - place) r.1)), omega (arith, small))
      where
        or_true : (b : Bool) → (b || true) ≡ true
        or_true true = refl
        or_true false = refl

itself_wide : (i : ℕ) → range_width (Some (i, i)) ≡ 1
itself_wide i = omega arith

le_itself : (n : ℕ) → nat_le n n ≡ true
le_itself n = grind (arith, nat_tests)

selected_is : (range : Option (ℕ × ℕ)) (place : ℕ) → place < range_width range → selected range (option_map (λ i. (i, i)) (option_map (λ r. index_at r place) range)) ≡ Some (record { first = place; width = 1 })
selected_is None place h =
    let none : 0 ≡ place = omega arith in
    λ j. Some (record { first = none j; width = 1 })
selected_is (Some r) place h =
    let i : ℕ = index_at r place in
    let facts = place_inside r place h in
    let inside : is_in_range r (index_at r place) ≡ true = facts.0 in
    let near : nat_le (distance r.0 (index_at r place)) (distance r.0 (index_at r place)) ≡ true = le_itself (distance r.0 i) in
    rw (inside, near) (λ j. Some (record { first = facts.1 j; width = itself_wide i j }))

-- the reference to a bit names it alone
pub span_is : (vs : List Entry) (bit : BitName) → Differ vs → IsBit vs bit → ref_span vs (reference (bit_of vs bit)) ≡ Some (record { first = bit.place; width = 1 })
span_is vs bit differ h =
    ap (λ (o : Option Entry). ref_span vs (reference (bit_in o bit.place))) h.stands
    ∙ ap (λ o. selected (on_some o None (λ v. v.range)) (option_map (λ i. (i, i)) (option_map (λ r. index_at r bit.place) h.entry.1.range))) (found_is vs bit.variable h.entry differ h.stands)
    ∙ selected_is h.entry.1.range bit.place h.place

pub bits_are : (vs : List Entry) (bit : BitName) → Differ vs → IsBit vs bit → ref_bits vs (reference (bit_of vs bit)) ≡ number_of vs bit ∷ []
bits_are vs bit differ h =
    let name : (reference (bit_of vs bit)).name ≡ h.entry.0 = ap (λ (o : Option Entry). (bit_in o bit.place).name) h.stands in
    ap (λ n. span_bits (first_number vs n) (ref_span vs (reference (bit_of vs bit)))) name
    ∙ ap (span_bits (first_number vs h.entry.0)) (span_is vs bit differ h)
    ∙ ap (λ n. n ∷ []) (first_is vs bit.variable bit.place h.entry differ h.stands)
