-- A bit's text names it alone.
use Rattle.std.proofs.Common.{◌≡◌, ◌≢◌, ℕ, ◌+◌, ◌-◌, ◌<◌, List, Option, Some, None, Bool, true, false, nat_le, nat_lt, AllPairs, slice_get, refl, sym, ap, ◌∙◌, arith, subst, if◌then◌else◌}
use Rattle.std.specs.Option.{option_map}
use Rattle.std.proofs.lemmas.Option.{get_or_from_slice_get, slice_get_within}
use Rattle.std.proofs.lemmas.Bool.Decides.{nat_tests}
use Rattle.bb_base.specs.declared.variable.BitName.{BitName}
use Rattle.bb_base.specs.Variables.{Entry, IsBit, bit_of, bit_in, range_width, index_at}

-- no two variables have one name
abbrev pub Apart : List Entry → Type 0
Apart vs = AllPairs (λ v w. v.0 ≢ w.0) vs

before_apart : (vs : List Entry) (i j : ℕ) (v w : Entry) → Apart vs → slice_get vs i ≡ Some v → slice_get vs j ≡ Some w → i < j → v.0 ≡ w.0 → ⊥
before_apart vs i j v w apart a b less e =
    apart i j v less (slice_get_within vs j w b) (ap (λ u. u.0) (get_or_from_slice_get vs i v v a) ∙ e ∙ sym (ap (λ u. u.0) (get_or_from_slice_get vs j w v b)))

-- variables with one name are one
pub same_number : (vs : List Entry) (i j : ℕ) (v w : Entry) → Apart vs → slice_get vs i ≡ Some v → slice_get vs j ≡ Some w → v.0 ≡ w.0 → i ≡ j
same_number vs i j v w apart a b e = go (nat_lt i j) (nat_lt j i) refl refl
  where
    go : (x y : Bool) → nat_lt i j ≡ x → nat_lt j i ≡ y → i ≡ j
    go true y p q =
        let less : i < j = grind (arith, nat_tests) in
        absurd (before_apart vs i j v w apart a b less e)
    go false true p q =
        let less : j < i = grind (arith, nat_tests) in
        absurd (before_apart vs j i w v apart b a less (sym e))
    go false false p q = grind (arith, nat_tests)

same_in : (r : ℕ × ℕ) (p q : ℕ) → p < range_width (Some r) → q < range_width (Some r) → index_at r p ≡ index_at r q → p ≡ q
same_in r p q h k e = go (nat_le r.0 r.1) refl e
  where
    go : (b : Bool) → nat_le r.0 r.1 ≡ b → (if b then r.0 + p else r.0 - p) ≡ (if b then r.0 + q else r.0 - q) → p ≡ q
    go true t e = omega arith
    go false t e =
        let above : r.1 < r.0 = grind (arith, nat_tests) in
        omega (arith, above)

same_place : (r : Option (ℕ × ℕ)) (p q : ℕ) → p < range_width r → q < range_width r → option_map (λ s. index_at s p) r ≡ option_map (λ s. index_at s q) r → p ≡ q
same_place None p q h k e = omega arith
same_place (Some r) p q h k e =
    let one : index_at r p ≡ index_at r q = cc in
    same_in r p q h k one

same_entry : (v w : Entry) (o : Option Entry) → o ≡ Some v → o ≡ Some w → v ≡ w
same_entry v w o a b = let e : ◌≡◌ {A = Option Entry} (Some v) (Some w) = sym a ∙ b in cc

-- bits that are written alike are one
pub same_bit : (vs : List Entry) (c d : BitName) → Apart vs → IsBit vs c → IsBit vs d → bit_of vs c ≡ bit_of vs d → c ≡ d
same_bit vs c d apart h k e =
    let one : bit_in (Some h.entry) c.place ≡ bit_in (Some k.entry) d.place = sym (ap (λ o. bit_in o c.place) h.stands) ∙ e ∙ ap (λ o. bit_in o d.place) k.stands in
    let number : c.variable ≡ d.variable = same_number vs c.variable d.variable h.entry k.entry apart h.stands k.stands (ap (λ b. b.name) one) in
    let entry : h.entry ≡ k.entry = same_entry h.entry k.entry (slice_get vs d.variable) (ap (slice_get vs) (sym number) ∙ h.stands) k.stands in
    let index : option_map (λ s. index_at s c.place) h.entry.1.range ≡ option_map (λ s. index_at s d.place) h.entry.1.range = ap (λ b. b.index) one ∙ ap (λ v. option_map (λ s. index_at s d.place) v.1.range) (sym entry) in
    let place : c.place ≡ d.place = same_place h.entry.1.range c.place d.place h.place (subst (λ v. d.place < range_width v.1.range) (sym entry) k.place) index in
    λ i. record { variable = number i; place = place i }
