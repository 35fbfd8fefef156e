-- The places of bits, and the next use of a name.
use Rattle.std.proofs.Common.{arith, ◌≡◌, ℕ, zero, suc, ◌+◌, ◌-◌, ◌<◌, ◌≤◌, drop, slice_get, Bool, true, false, not, cond, length, List, [], ◌∷◌, refl, sym, ap, ◌∙◌}
use Rattle.std.proofs.lemmas.Bool.Decides.{nat_tests}
use Rattle.std.specs.Prelude.{Option, Some, None, slice_index_or, nat_le, ◌&&◌}
use Rattle.std.specs.Map.{lookup}
use Rattle.std.specs.List.{range_with_len}
use Rattle.std.specs.Str.{bytes_eq}
use Rattle.bb_base.specs.Variables.{Entry, range_width, bit_count}
use Rattle.bb_scope.specs.declared.references.Span.{Span}
use Rattle.bb_scope.specs.References.{selected, is_in_range, distance, range_in, first_number}
use Rattle.bb_scope.specs.Numbers.{places_from, place_of_name}
use Rattle.bb_scope.specs.declared.scope.Place.{Place}
use Rattle.bb_scope.specs.Uses.{index_in, AreNext}
use Rattle.bb_fault.specs.Firsts.{on_some}

-- one place more than variables
pub places-length : (first : ℕ) (es : List Entry) → length (places_from first es) ≡ length es + 1
places-length first [] = refl
places-length first (e ∷ es) = let h = places-length (first + range_width e.1.range) es in omega (arith, h)

-- the place at the index of a name is that of the name's variable
place_at :
    (first : ℕ) (es : List Entry) (name : List ℕ) → slice_get (places_from first es) (index_in es name) ≡ Some (record { first = first + first_number es name; range = range_in es name })
place_at first [] name = let none : first ≡ first + 0 = omega arith in ap (λ n. Some (record { first = n; range = None })) none
place_at first (e ∷ es) name = go (bytes_eq name e.0) (place_at (first + range_width e.1.range) es name)
  where
    go :
        (b : Bool)
        → slice_get (places_from (first + range_width e.1.range) es) (index_in es name) ≡ Some (record { first = first + range_width e.1.range + first_number es name; range = range_in es name })
        → slice_get ((record { first = first; range = e.1.range }) ∷ places_from (first + range_width e.1.range) es) (cond (not b) (1 + index_in es name) 0)
        ≡ Some (record { first = first + cond b 0 (range_width e.1.range + first_number es name); range = on_some (cond b (Some e.1) (lookup (bytes_eq name) es)) None (λ v. v.range) })
    go true h = let none : first ≡ first + 0 = omega arith in ap (λ n. Some (record { first = n; range = e.1.range })) none
    go false h =
        let next : 1 + index_in es name ≡ suc (index_in es name) = omega arith in
        let sum : first + range_width e.1.range + first_number es name ≡ first + (range_width e.1.range + first_number es name) = omega arith in
        ap (λ k. slice_get ((record { first = first; range = e.1.range }) ∷ places_from (first + range_width e.1.range) es) k) next
        ∙ (h ∙ ap (λ n. Some (record { first = n; range = range_in es name })) sum)

-- a name's variable stands among the others or behind them
pub index-within : (es : List Entry) (name : List ℕ) → index_in es name ≤ length es
index-within [] name = omega arith
index-within (e ∷ es) name = go (bytes_eq name e.0) (index-within es name)
  where
    go : (b : Bool) → index_in es name ≤ length es → cond (not b) (1 + index_in es name) 0 ≤ length (e ∷ es)
    go true h = omega arith
    go false h = omega (arith, h)

-- the bits of each place end within those of all and one more
pub place-within : (first : ℕ) (es : List Entry) (i : ℕ) (p : Place) → slice_get (places_from first es) i ≡ Some p → p.first + range_width p.range ≤ first + bit_count es + 1
place-within first [] zero p h =
    let at : p.first ≡ first = cc in
    let none : p.range ≡ None = cc in
    let width : range_width p.range ≡ 1 = ap range_width none in
    omega (arith, at, width)
place-within first [] (suc i) p h = cc
place-within first (e ∷ es) zero p h =
    let at : p.first ≡ first = cc in
    let range : p.range ≡ e.1.range = cc in
    let width : range_width p.range ≡ range_width e.1.range = ap range_width range in
    omega (arith, at, width)
place-within first (e ∷ es) (suc i) p h = let k = place-within (first + range_width e.1.range) es i p h in omega (arith, k)

-- the next use is of the next name's variable
pub next_first : (vars : List Entry) (name : List ℕ) (names : List (List ℕ)) (uses : List ℕ) (d : ℕ) → AreNext vars (name ∷ names) uses → slice_index_or uses 0 d ≡ index_in vars name
next_first vars name names [] d h = let a = h.all in cc
next_first vars name names (u ∷ uses) d h = let a = h.all in cc

pub next_within : (vars : List Entry) (name : List ℕ) (names : List (List ℕ)) (uses : List ℕ) (d : ℕ) → AreNext vars (name ∷ names) uses → slice_index_or uses 0 d ≤ length vars
next_within vars name names uses d h = let at = next_first vars name names uses d h in let within = index-within vars name in omega (arith, at, within)

-- the place of the next use is that of the name's variable
pub next_place :
    (vars : List Entry) (name : List ℕ) (names : List (List ℕ)) (uses : List ℕ) (d : ℕ) (p : Place) → AreNext vars (name ∷ names) uses
    → slice_get (places_from 0 vars) (slice_index_or uses 0 d) ≡ Some p → p ≡ place_of_name vars name
next_place vars name names uses d p h place =
    some_same p (place_of_name vars name) (sym place ∙ (ap (λ k. slice_get (places_from 0 vars) k) (next_first vars name names uses d h) ∙ (place_at 0 vars name ∙ same)))
  where
    some_same : (a b : Place) → Some a ≡ Some b → a ≡ b
    some_same a b h = cc

    same : Some (record { first = 0 + first_number vars name; range = range_in vars name }) ≡ Some (place_of_name vars name)
    same = let sum : 0 + first_number vars name ≡ first_number vars name = omega arith in ap (λ n. Some (record { first = n; range = range_in vars name })) sum

-- a part of a range ends within it
inside :
    (r t : ℕ × ℕ) (s : Span) → is_in_range r t.0 ≡ true → is_in_range r t.1 ≡ true → nat_le (distance r.0 t.0) (distance r.0 t.1) ≡ true
    → Some (record { first = distance r.0 t.0; width = range_width (Some t) }) ≡ Some s → s.first + s.width ≤ range_width (Some r)
inside r t s a b c h =
    let first : s.first ≡ distance r.0 t.0 = cc in
    let width : s.width ≡ range_width (Some t) = cc in
    grind (arith, nat_tests, a, b, c, first, width)

-- the bits that a select names are among those of its variable
pub selected-within : (range select : Option (ℕ × ℕ)) (s : Span) → selected range select ≡ Some s → s.first + s.width ≤ range_width range
selected-within range None s h = let w = whole range s h in omega (arith, w.0, w.1)
  where
    whole : (range : Option (ℕ × ℕ)) (s : Span) → Some (record { first = 0; width = range_width range }) ≡ Some s → (s.first ≡ 0) × (s.width ≡ range_width range)
    whole range s h = (cc, cc)
selected-within None (Some t) s h = cc
selected-within (Some r) (Some t) s h = go (is_in_range r t.0) (is_in_range r t.1) (nat_le (distance r.0 t.0) (distance r.0 t.1)) refl refl refl h
  where
    go :
        (a b c : Bool) → is_in_range r t.0 ≡ a → is_in_range r t.1 ≡ b → nat_le (distance r.0 t.0) (distance r.0 t.1) ≡ c
        → cond (a && (b && c)) (Some (record { first = distance r.0 t.0; width = range_width (Some t) })) None ≡ Some s → s.first + s.width ≤ range_width (Some r)
    go true true true ha hb hc h = inside r t s ha hb hc h
    go true true false ha hb hc h = cc
    go true false c ha hb hc h = cc
    go false b c ha hb hc h = cc

-- places from an index on
pub places_next :
    (first : ℕ) (es : List Entry) (i : ℕ) (v : Entry) → slice_get es i ≡ Some v
    → places_from first (drop i es) ≡ (record { first = first; range = v.1.range }) ∷ places_from (first + range_width v.1.range) (drop (i + 1) es)
places_next first [] i v h = cc
places_next first (e ∷ es) zero v h =
    let same : e ≡ v = some_same e v h in
    ap (λ x. (record { first = first; range = x.1.range }) ∷ places_from (first + range_width x.1.range) es) same
  where
    some_same : (a b : Entry) → Some a ≡ Some b → a ≡ b
    some_same a b e = cc
places_next first (e ∷ es) (suc i) v h =
    let k : suc i + 1 ≡ suc (i + 1) = omega arith in
    places_next first es i v h ∙ ap (λ n. (record { first = first; range = v.1.range }) ∷ places_from (first + range_width v.1.range) (drop n (e ∷ es))) (sym k)

-- bits that stand together: the first one, and then the others
pub range_next : (first end : ℕ) → first < end → range_with_len first (end - first) ≡ first ∷ range_with_len (first + 1) (end - (first + 1))
range_next first end h = ap (λ n. range_with_len first n) one_less
  where
    one_less : end - first ≡ suc (end - (first + 1))
    one_less = omega (arith, h)

-- and none where the end is reached
pub range_done : (first end : ℕ) → end ≤ first → range_with_len first (end - first) ≡ []
range_done first end h = ap (λ n. range_with_len first n) none
  where
    none : end - first ≡ 0
    none = omega (arith, h)
