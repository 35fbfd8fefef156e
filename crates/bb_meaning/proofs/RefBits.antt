-- References are read as the bits of variables have it.
use Rattle.std.proofs.Common.{arith, ◌≡◌, ℕ, suc, zero, ◌+◌, ◌-◌, ◌<◌, ◌≤◌, nat_le, nat_lt, Bool, true, false, ◌&&◌, ◌||◌, cond, List, [], ◌∷◌, map, refl, ap, sym, ◌∙◌, subst}
use Rattle.std.proofs.lemmas.Bool.Decides.{nat_tests}
use Rattle.std.specs.Prelude.{Option, Some, None, slice_get}
use Rattle.std.specs.Option.{option_map}
use Rattle.std.specs.List.{range_with_len}
use Rattle.std.specs.Map.{lookup}
use Rattle.std.specs.Str.{bytes_eq}
use Rattle.bb_base.specs.Variables.{Entry, range_width, index_at, bit_in, bit_of}
use Rattle.bb_base.proofs.Lists.{map_twice}
use Rattle.bb_parse.specs.declared.syntax.Ref.{Ref}
use Rattle.bb_parse.specs.Trees.{Name, Select, Whole, Bit, Part}
use Rattle.bb_fault.specs.Firsts.{on_some}
use Rattle.bb_fault.proofs.Keys.{same_name}
use Rattle.bb_scope.specs.declared.references.Span.{Span}
use Rattle.bb_scope.specs.References.{range_in, distance, is_in_range, selected, first_number, span_bits}
use Rattle.bb_drive.specs.Nets.{is_variable, bit_name}
use Rattle.bb_meaning.proofs.WithinSteps.{IsKnown, part_ends, ends_within}
use Rattle.bb_meaning.specs.Values.{Bits, only_bit, element, indices, elements, whole_variable, reference_bits}
use Rattle.bb_meaning.specs.Statements.{AreBitsOf}
use Rattle.bb_meaning.proofs.StepValues.{by_ref}
use Rattle.bb_meaning.proofs.StepBits.{AreRead}

-- the bits that a reference of a module names
abbrev selected_value : Bits → Name → Option (ℕ × ℕ) → Option (ℕ × ℕ) → List Bool
selected_value bits x range None = whole_variable bits x range
selected_value bits x range (Some s) = elements bits x s

abbrev pub named : List Entry → Bits → Ref → List Bool
named table bits r = selected_value bits r.name (range_in table r.name) r.select

-- they are those that the tree's reference names
one-place : (n : ℕ) → n ≡ 0 → (i : ℕ) → map (index_at (i, i)) (range_with_len 0 (n + 1)) ≡ i ∷ []
one-place zero h i = go (nat_le i i)
  where
    go : (b : Bool) → cond b (i + 0) (i - 0) ∷ [] ≡ i ∷ []
    go true = ap (λ z. z ∷ []) (omega arith)
    go false = ap (λ z. z ∷ []) (omega arith)
one-place (suc n) h i = cc

one-index : (i : ℕ) → indices (i, i) ≡ i ∷ []
one-index i = one-place ((i - i) + (i - i)) (omega arith) i

by-ref : (table : List Entry) (bits : Bits) (x : Name) (s : Select) → by_ref (named table bits) x s ≡ reference_bits table bits x s
by-ref table bits x Whole = refl
by-ref table bits x (Bit i) = ap (map (λ k. bits (element x k))) (one-index i)
by-ref table bits x (Part from to) = refl

pub same-reading : (table : List Entry) (bits : Bits) → by_ref (named table bits) ≡ reference_bits table bits
same-reading table bits = λ i x s. by-ref table bits x s i

-- the first variable with this name, its number, and the names of its bits
record IsAt (table : List Entry) (name : List ℕ) : Type 0 where
  number : ℕ
  entry : Entry
  stands : slice_get table number ≡ Some entry
  called : bytes_eq name entry.0 ≡ true
  range : range_in table name ≡ entry.1.range
  bits : (n place : ℕ) → place < range_width entry.1.range → bit_name n table (first_number table name + place) ≡ record { variable = n + number; place = place }

found-at : (table : List Entry) (name : List ℕ) → IsKnown table name → IsAt table name
found-at [] name known = absurd (cc known)
found-at (v ∷ table) name known = go (bytes_eq name v.0) refl known (found-at table name)
  where
    width : ℕ
    width = range_width v.1.range

    -- a bit of the first variable, and one behind it
    inside : (n b place : ℕ) → place < width → b ≡ place → bit_name n (v ∷ table) b ≡ record { variable = n + 0; place = place }
    inside n b place small same =
        let less : nat_lt b width ≡ true = grind (arith, nat_tests, small, same) in
        ap (λ t. cond t (record { variable = n; place = b }) (bit_name (suc n) table (b - width))) less ∙ (λ i. record { variable = zero_more n i; place = same i })
      where
        zero_more : (n : ℕ) → n ≡ n + 0
        zero_more n = omega arith

    behind : (n b rest : ℕ) → b ≡ width + rest → bit_name n (v ∷ table) b ≡ bit_name (suc n) table rest
    behind n b rest same =
        let less : nat_lt b width ≡ false = grind (arith, nat_tests, same) in
        let left : b - width ≡ rest = omega (arith, same) in
        ap (λ t. cond t (record { variable = n; place = b }) (bit_name (suc n) table (b - width))) less ∙ ap (bit_name (suc n) table) left

    go : (b : Bool) → bytes_eq name v.0 ≡ b → (b || is_variable table name) ≡ true → (is_variable table name ≡ true → IsAt table name) → IsAt (v ∷ table) name
    go true e k rest =
        record {
          number = 0;
          entry = v;
          stands = refl;
          called = e;
          range = ap (λ b. on_some (cond b (Some v.1) (lookup (bytes_eq name) table)) None (λ v. v.range)) e;
          bits = λ n place small. inside n (cond (bytes_eq name v.0) 0 (width + first_number table name) + place) place small (ap (λ b. cond b 0 (width + first_number table name) + place) e ∙ omega arith);
        }
    go false e k rest =
        let at = rest k in
        record {
          number = suc at.number;
          entry = at.entry;
          stands = at.stands;
          called = at.called;
          range = ap (λ b. on_some (cond b (Some v.1) (lookup (bytes_eq name) table)) None (λ v. v.range)) e ∙ at.range;
          bits =
              λ n place small.
              behind n (cond (bytes_eq name v.0) 0 (width + first_number table name) + place) (first_number table name + place)
              (ap (λ b. cond b 0 (width + first_number table name) + place) e ∙ omega arith)
              ∙ (at.bits (suc n) place small ∙ (λ i. record { variable = more n at.number i; place = place }));
        }
      where
        more : (n k : ℕ) → suc n + k ≡ n + suc k
        more n k = omega arith

-- a function of equal numbers
along : {Y : Type 0} (f : ℕ → Y) (a b : ℕ) → a ≡ b → f a ≡ f b
along f a b e = ap f e

-- maps over numbers from two places on
shifted : (v g : ℕ → Bool) (a b n : ℕ) → ((k : ℕ) → k < n → v (a + k) ≡ g (b + k)) → map v (range_with_len a n) ≡ map g (range_with_len b n)
shifted v g a b zero same = refl
shifted v g a b (suc n) same =
    let here : v a ≡ g b = along v a (a + 0) (omega arith) ∙ (same 0 (omega arith) ∙ along g (b + 0) b (omega arith)) in
    λ i. here i ∷ shifted v g (a + 1) (b + 1) n (λ k small. along v (a + 1 + k) (a + (k + 1)) (omega arith) ∙ (same (k + 1) (omega (arith, small)) ∙ along g (b + (k + 1)) (b + 1 + k) (omega arith))) i

-- the index of a place in a part that runs as its range does
part-index :
    (l r a b k : ℕ) → (is_in_range (l, r) a && (is_in_range (l, r) b && nat_le (distance l a) (distance l b))) ≡ true → k < (a - b) + (b - a) + 1 → index_at (l, r) (distance l a + k) ≡ index_at (a, b) k
part-index l r a b k h small = grind (arith, nat_tests, h, small)

-- the bits of a reference, by those of its variable
select-bits :
    (v : ℕ → Bool) (bits : Bits) (x : Name) (first : ℕ) (range select : Option (ℕ × ℕ)) (s : Span) → selected range select ≡ Some s
    → ((place : ℕ) → place < range_width range → v (first + place) ≡ bits (record { name = x; index = option_map (λ r. index_at r place) range }))
    → map v (range_with_len (first + s.first) s.width) ≡ selected_value bits x range select
select-bits v bits x first None None s h at =
    let same : record { first = 0; width = 1 } ≡ s = cc h in
    subst (λ (t : Span). map v (range_with_len (first + t.first) t.width) ≡ bits (only_bit x) ∷ []) same (λ i. at 0 (omega arith) i ∷ [])
select-bits v bits x first (Some r) None s h at =
    let same : record { first = 0; width = range_width (Some r) } ≡ s = cc h in
    subst (λ (t : Span). map v (range_with_len (first + t.first) t.width) ≡ elements bits x r) same
    (shifted v (λ k. bits (element x (index_at r k))) (first + 0) 0 (range_width (Some r)) (λ k small. along v (first + 0 + k) (first + k) (omega arith) ∙ (at k small ∙ along (λ z. bits (element x (index_at r z))) k (0 + k) (omega arith)))
    ∙ sym (map_twice (λ i. bits (element x i)) (index_at r) (range_with_len 0 (range_width (Some r)))))
select-bits v bits x first None (Some p) s h at = absurd (cc h)
select-bits v bits x first (Some r) (Some p) s h at = go (is_in_range r p.0 && (is_in_range r p.1 && nat_le (distance r.0 p.0) (distance r.0 p.1))) refl h
  where
    go : (b : Bool) → (is_in_range r p.0 && (is_in_range r p.1 && nat_le (distance r.0 p.0) (distance r.0 p.1))) ≡ b
        → cond b (Some (record { first = distance r.0 p.0; width = range_width (Some p) })) None ≡ Some s → map v (range_with_len (first + s.first) s.width) ≡ elements bits x p
    go false e k = absurd (cc k)
    go true e k =
        let same : record { first = distance r.0 p.0; width = range_width (Some p) } ≡ s = cc k in
        let ends = part_ends (Some r) (Some p) s h in
        let ends_is : distance r.0 p.0 + range_width (Some p) ≤ range_width (Some r) = omega (arith, ends, ap (λ (t : Span). t.first) same, ap (λ (t : Span). t.width) same) in
        subst (λ (t : Span). map v (range_with_len (first + t.first) t.width) ≡ elements bits x p) same
        (shifted v (λ k. bits (element x (index_at p k))) (first + distance r.0 p.0) 0 (range_width (Some p))
        (λ k small. along v (first + distance r.0 p.0 + k) (first + (distance r.0 p.0 + k)) (omega arith)
        ∙ (at (distance r.0 p.0 + k) (omega (arith, small, ends_is)) ∙ ap (λ z. bits (element x z)) (part-index r.0 r.1 p.0 p.1 k e small ∙ along (index_at p) k (0 + k) (omega arith))))
        ∙ sym (map_twice (λ i. bits (element x i)) (index_at p) (range_with_len 0 (range_width (Some p)))))

-- in a reading of the bits of variables, references name those bits
pub are-read : (table : List Entry) (v : ℕ → Bool) (bits : Bits) → AreBitsOf table v bits → AreRead table v (named table bits)
are-read table v bits of r s known e =
    let at = found-at table r.name known in
    let name : at.entry.0 ≡ r.name = sym (same_name r.name at.entry.0 at.called) in
    let ends = ends_within table r.name known in
    let stands : (place : ℕ) → place < range_width (range_in table r.name) → v (first_number table r.name + place) ≡ bits (record { name = r.name; index = option_map (λ q. index_at q place) (range_in table r.name) }) =
    λ place small.
    of (first_number table r.name + place) (omega (arith, small, ends))
    ∙ ap bits
    (ap (bit_of table) (at.bits 0 place (subst (λ q. place < range_width q) at.range small) ∙ along (λ k. record { variable = k; place = place }) (0 + at.number) at.number (omega arith))
    ∙ (ap (λ o. bit_in o place) at.stands ∙ (λ i. record { name = name i; index = option_map (λ q. index_at q place) (sym at.range i) }))) in
    ap (λ z. map v (span_bits (first_number table r.name) z)) e ∙ select-bits v bits r.name (first_number table r.name) (range_in table r.name) r.select s e stands
