-- A bit is found by its text.
use Rattle.std.proofs.Common.{◌≡◌, ℕ, ◌+◌, ◌-◌, ◌≤◌, ◌<◌, zero, suc, List, [], ◌∷◌, length, map, Option, Some, None, Bool, true, false, not, nat_le, nat_lt, position, slice_get, refl, sym, ap, ◌∙◌, arith, cond, if◌then◌else◌}
use Rattle.std.specs.List.{position_or_len}
use Rattle.std.specs.Option.{option_map}
use Rattle.std.specs.Str.{bytes_eq}
use Rattle.std.proofs.lemmas.Option.{slice_get_within}
use Rattle.std.proofs.lemmas.Slice.Eq.{bytes_eq-Decides}
use Rattle.std.proofs.lemmas.Bool.Decides.{nat_tests}
use Rattle.bb_base.specs.declared.variable.BitName.{BitName}
use Rattle.bb_base.specs.Variables.{Entry, IsBit, bit_of, bit_in, bit_at, range_width}
use Rattle.bb_base.specs.Variables as bits
use Rattle.bb_base.specs.Named.{Named, lookup_of}
use Rattle.bb_spell.specs.Front.{◌>>=◌}
use Rattle.bb_canon.specs.Drafting.{index_place, indexed_place, named_bit}
use Rattle.bb_canon.proofs.Drafts.{lookup_entry}
use Rattle.bb_canon.proofs.BitAgain.{Apart, same_number}

place_le : {X : Type 0} (p : X → Bool) (xs : List X) (i : ℕ) (x : X) → slice_get xs i ≡ Some x → p x ≡ true → position_or_len p xs ≤ i
place_le p [] i x h t = cc
place_le p (y ∷ ys) zero x h t =
    let same : y ≡ x = cc in
    let pass : p y ≡ true = ap p same ∙ t in
    rw pass (omega arith)
place_le p (y ∷ ys) (suc i) x h t = go (p y) (place_le p ys i x h t)
  where
    go : (b : Bool) → position_or_len p ys ≤ i → cond (not b) (1 + position_or_len p ys) 0 ≤ suc i
    go true le = omega arith
    go false le = omega arith

found_at : (k n : ℕ) → k < n → cond (nat_lt k n) (Some k) None ≡ Some k
found_at k n h = let t : nat_lt k n ≡ true = grind (arith, nat_tests) in rw t refl

-- some item is found where one passes
pub position_found : {X : Type 0} (p : X → Bool) (xs : List X) (i : ℕ) (x : X) → slice_get xs i ≡ Some x → p x ≡ true → (k : ℕ) × (position p xs ≡ Some k)
position_found p xs i x h t =
    let le = place_le p xs i x h t in
    let within = slice_get_within xs i x h in
    (position_or_len p xs, found_at (position_or_len p xs) (length xs) (omega arith))

map_at : (vs : List Entry) (i : ℕ) (v : Entry) → slice_get vs i ≡ Some v → slice_get (map (λ u. u.0) vs) i ≡ Some v.0
map_at [] i v h = cc
map_at (u ∷ us) zero v h =
    let same : u ≡ v = cc in
    ap (λ w. Some w.0) same
map_at (u ∷ us) (suc i) v h = map_at us i v h

-- a variable is found by its name
pub lookup_again : (n : Named) (number : ℕ) (v : Entry) → Apart n.variables → slice_get n.variables number ≡ Some v → lookup_of v.0 n ≡ Some number
lookup_again n number v apart at =
    let found = position_found (bytes_eq v.0) (map (λ u. u.0) n.variables) number v.0 (map_at n.variables number v at) ((bytes_eq-Decides v.0 v.0).1 refl) in
    let entry = lookup_entry n v.0 found.0 found.1 in
    let same = same_number n.variables found.0 number entry.0 v apart entry.1 at entry.2 in
    found.1 ∙ ap Some same

up_again : (l r p : ℕ) → l ≤ r → p < (l - r) + (r - l) + 1 → index_place (l, r) (l + p) ≡ Some p
up_again l r p h w =
    let one : nat_le l r ≡ true = grind (arith, nat_tests) in
    let two : nat_le l (l + p) ≡ true = grind (arith, nat_tests) in
    let most : l + p ≤ r = omega arith in
    let three : nat_le (l + p) r ≡ true = grind (arith, nat_tests) in
    let four : l + p - l ≡ p = omega arith in
    rw (one, two, three, four) refl

down_again : (l r p : ℕ) → r < l → p < (l - r) + (r - l) + 1 → index_place (l, r) (l - p) ≡ Some p
down_again l r p h w =
    let one : nat_le l r ≡ false = grind (arith, nat_tests) in
    let least : r ≤ l - p = omega arith in
    let two : nat_le r (l - p) ≡ true = grind (arith, nat_tests) in
    let under : l - p ≤ l = omega arith in
    let three : nat_le (l - p) l ≡ true = grind (arith, nat_tests) in
    let four : l - (l - p) ≡ p = omega arith in
    rw (one, two, three, four) refl

place_in_again : (r : ℕ × ℕ) (p : ℕ) → p < range_width (Some r) → index_place r (bits.index_at r p) ≡ Some p
place_in_again r p w = go (nat_le r.0 r.1) refl
  where
    go : (b : Bool) → nat_le r.0 r.1 ≡ b → index_place r (if b then r.0 + p else r.0 - p) ≡ Some p
    go true e =
        let le : r.0 ≤ r.1 = grind (arith, nat_tests) in
        up_again r.0 r.1 p le w
    go false e =
        let lt : r.1 < r.0 = grind (arith, nat_tests) in
        down_again r.0 r.1 p lt w

-- a place is found by its index
pub place_again : (r : Option (ℕ × ℕ)) (p : ℕ) → p < range_width r → indexed_place r (option_map (λ q. bits.index_at q p) r) ≡ Some p
place_again None p w =
    let e : p ≡ 0 = omega arith in
    ap Some (sym e)
place_again (Some r) p w = place_in_again r p w

-- a bit is found by its text
pub named_again : (n : Named) (bit : BitName) → Apart n.variables → IsBit n.variables bit → named_bit n (bit_of n.variables bit) ≡ Some bit
named_again n bit apart h =
    let text : bit_of n.variables bit ≡ bit_in (Some h.entry) bit.place = ap (λ o. bit_in o bit.place) h.stands in
    let number = lookup_again n bit.variable h.entry apart h.stands in
    let place = place_again h.entry.1.range bit.place h.place in
    ap (named_bit n) text ∙ (λ i. number i >>= (λ k. slice_get n.variables k >>= (λ v. indexed_place v.1.range (option_map (λ q. bits.index_at q bit.place) h.entry.1.range) >>= (λ p. Some (bit_at k p)))))
    ∙ (λ i. h.stands i >>= (λ v. indexed_place v.1.range (option_map (λ q. bits.index_at q bit.place) h.entry.1.range) >>= (λ p. Some (bit_at bit.variable p)))) ∙ (λ i. place i >>= (λ p. Some (bit_at bit.variable p)))
