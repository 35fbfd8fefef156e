-- Variables that can stand together, and what stays so with one more.
use Rattle.std.proofs.Common.{arith, ◌≡◌, ◌≢◌, ℕ, ◌+◌, ◌<◌, ◌≤◌, nat_lt, List, [], ◌∷◌, ◌++◌, map, length, All, AllPairs, cond, Bool, true, false, not, Option, Some, None, get_or, refl, sym, ap, subst, ◌∙◌, length-append, ◌⊎◌, inl, inr, position, if◌then◌else◌}
use Rattle.std.proofs.lemmas.Bool.Decides.{nat_tests}
use Rattle.std.proofs.lemmas.Option.{slice_get_within, get_or_from_slice_get}
use Rattle.std.proofs.lemmas.List.Elements.{All-from_recursion, recursion_from_All}
use Rattle.std.specs.List.{AllByRecursion, position_or_len}
use Rattle.std.specs.Option.{ForSome}
use Rattle.std.specs.Str.{bytes_eq}
use Rattle.std.proofs.lemmas.Slice.Eq.{bytes_eq-Decides}
use Rattle.bb_base.specs.declared.variable.BitName.{BitName}
use Rattle.bb_base.specs.declared.variable.Variable.{Variable}
use Rattle.bb_base.specs.Variables.{Entry, IsEntry, is_port, range_width, bit_at, bit_count, places_but, StandsBefore}
use Rattle.bb_base.specs.Named.{Named, lookup_of}
use Rattle.bb_base.specs.Building.{port_bits}
use Rattle.bb_base.proofs.Lists.{get_front, all_join, in_front, length_map}
use Rattle.bb_base.proofs.Contained.{by_place}
use Rattle.bb_net.proofs.VariableLemmas.{all_at, at_end}
use Rattle.bb_net.proofs.CountLemmas.{variables_few}
use Rattle.bb_netlist.proofs.Sorting.{Ascends, pairs_ascend, ascend_pairs}
use Rattle.bb_lay.specs.Laying.{AddsAll, CanStand, IsLaid}
use Rattle.bb_lay.proofs.Ascending.{ascends_join, weaker, ArePlaces, left_places, place_bits, bits_of_variable}

pub bits_join : (xs ys : List Entry) → bit_count (xs ++ ys) ≡ bit_count xs + bit_count ys
bits_join [] ys = omega arith
bits_join (x ∷ xs) ys = omega (arith, bits_join xs ys)

-- fewer variables can stand too
pub stand_front : (xs ys : List Entry) → CanStand (xs ++ ys) → CanStand xs
stand_front xs ys h = record {
  entries = in_front IsEntry xs ys h.entries;
  apart = ascend_pairs (λ v w. v.0 ≢ w.0) xs (front xs (pairs_ascend (λ v w. v.0 ≢ w.0) (xs ++ ys) h.apart));
  ports_first = λ i j v w less a b. h.ports_first i j v w less (get_front xs ys i (slice_get_within xs i v a) ∙ a) (get_front xs ys j (slice_get_within xs j w b) ∙ b);
  few = omega (arith, bits_join xs ys, h.few);
}
  where
    kept : (e : Entry) (zs : List Entry) → AllByRecursion (λ w. e.0 ≢ w.0) (zs ++ ys) → AllByRecursion (λ w. e.0 ≢ w.0) zs
    kept e [] k = tt
    kept e (z ∷ zs) k = (k.0, kept e zs k.1)

    front : (zs : List Entry) → Ascends (λ v w. v.0 ≢ w.0) (zs ++ ys) → Ascends (λ v w. v.0 ≢ w.0) zs
    front [] k = tt
    front (z ∷ zs) k = (kept z zs k.0, front zs k.1)

-- the last of them
module _ (vs : List Entry) (e : Entry) (h : CanStand (vs ++ e ∷ [])) where
  pub last_few : length vs < 134217728
  last_few = omega (arith, variables_few (vs ++ e ∷ []), length-append vs (e ∷ []), h.few)

  pub last_entry : IsEntry e
  last_entry = all_at IsEntry (vs ++ e ∷ []) (length vs) e h.entries (at_end vs e)

  pub last_ports : is_port e.1.role ≡ true → All (λ v. is_port v.1.role ≡ true) vs
  last_ports port = All-from_recursion (λ v. is_port v.1.role ≡ true) vs
      (by_place (λ (v : Entry). is_port v.1.role ≡ true) vs (λ i v at. let less = slice_get_within vs i v at in h.ports_first i (length vs) v e less (get_front vs (e ∷ []) i less ∙ at) (at_end vs e) port))

  last_apart : AllByRecursion (λ (v : Entry). v.0 ≢ e.0) vs
  last_apart = by_place (λ (v : Entry). v.0 ≢ e.0) vs (λ i v at.
      let less = slice_get_within vs i v at in
      let one : get_or (vs ++ e ∷ []) i e ≡ v = get_or_from_slice_get (vs ++ e ∷ []) i v e (get_front vs (e ∷ []) i less ∙ at) in
      let two : get_or (vs ++ e ∷ []) (length vs) e ≡ e = get_or_from_slice_get (vs ++ e ∷ []) (length vs) e e (at_end vs e) in
      λ same. h.apart i (length vs) e less (omega (arith, length-append vs (e ∷ []))) (ap (λ (k : Entry). k.0) one ∙ same ∙ sym (ap (λ (k : Entry). k.0) two)))

  none_so : (ks : List Entry) → AllByRecursion (λ (v : Entry). v.0 ≢ e.0) ks → position_or_len (bytes_eq e.0) (map (λ v. v.0) ks) ≡ length ks
  none_so [] k = refl
  none_so (v ∷ ks) k = ap (λ t. cond (not t) (1 + position_or_len (bytes_eq e.0) (map (λ v. v.0) ks)) 0) (other (bytes_eq e.0 v.0) refl) ∙ omega (arith, none_so ks k.1)
    where
      other : (b : Bool) → bytes_eq e.0 v.0 ≡ b → bytes_eq e.0 v.0 ≡ false
      other true t = absurd (k.0 (sym ((bytes_eq-Decides e.0 v.0).0 t)))
      other false t = t

  pub last_new : (n : Named) → n.variables ≡ vs → lookup_of e.0 n ≡ None
  last_new n same = ap (λ ks. position (bytes_eq e.0) (map (λ v. v.0) ks)) same ∙
      (let past : nat_lt (position_or_len (bytes_eq e.0) (map (λ v. v.0) vs)) (length (map (λ v. v.0) vs)) ≡ false = grind (arith, nat_tests, none_so vs last_apart, length_map (λ (v : Entry). v.0) vs) in
      ap (λ t. cond t (Some (position_or_len (bytes_eq e.0) (map (λ v. v.0) vs))) None) past)

-- the bits of which a variable makes nets at once are no more than it has
pub port_few : (number : ℕ) (v : Variable) (clock : Option ℕ) → ForSome clock (λ p. p < range_width v.range) → length (port_bits number v clock) ≤ range_width v.range
port_few number v clock h = by (is_port v.role)
  where
    by : (b : Bool) → length (if b then map (bit_at number) (places_but clock (range_width v.range)) else []) ≤ range_width v.range
    by true = omega (arith, length_map (bit_at number) (places_but clock (range_width v.range)), (left_places clock (range_width v.range) h).few)
    by false = omega arith

-- the clock is an earlier one, or a bit of the last variable that is no net
abbrev pub MayBeClock : Named → List ℕ → BitName → Type 0
MayBeClock old places c = (old.clock ≡ Some c) ⊎ ((c.variable ≡ length old.variables) × AllByRecursion (λ p. p ≢ c.place) places)

-- what was laid, with one more variable and some of its bits
pub laid_step : (old new : Named) (e : Entry) (bits : List BitName) (clock : Option BitName) (places : List ℕ) → IsLaid old → AddsAll old new (e ∷ []) bits clock → bits ≡ map (bit_at (length old.variables)) places → ArePlaces (range_width e.1.range) places
    → ForSome clock (MayBeClock old places) → IsLaid new
laid_step old new e bits clock places h adds are places_are clocked = record {
  ascending = subst (AllPairs StandsBefore) (sym names)
      (ascend_pairs StandsBefore (old.names ++ map (bit_at n) places)
      (ascends_join StandsBefore old.names (map (bit_at n) places) (pairs_ascend StandsBefore old.names h.ascending) (place_bits n places places_are.ascend)
      (weaker (λ (b : BitName). b.variable < n) (λ b. AllByRecursion (StandsBefore b) (map (bit_at n) places)) (λ b less. bits_of_variable n (StandsBefore b) (λ p. inl less) places) old.names below)));
  below = subst (λ bs. All (λ bit. bit.variable < length new.variables) bs) (sym names)
      (All-from_recursion (λ (b : BitName). b.variable < length new.variables) (old.names ++ map (bit_at n) places)
      (all_join (λ (b : BitName). b.variable < length new.variables) old.names (map (bit_at n) places) (weaker (λ (b : BitName). b.variable < n) (λ b. b.variable < length new.variables) (λ b less. omega (arith, less, longer)) old.names below)
      (bits_of_variable n (λ (b : BitName). b.variable < length new.variables) (λ p. omega (arith, longer)) places)));
  few = omega (arith, ap length names, length-append old.names (map (bit_at n) places), length_map (bit_at n) places, places_are.few, h.few, ap bit_count adds.variables, bits_join old.variables (e ∷ []));
  clock_below = λ c same. low c (clocked c (sym adds.clock_is ∙ same));
  apart_from_clock = λ c same. subst (All (λ bit. bit ≢ c)) (sym names) (All-from_recursion (λ (b : BitName). b ≢ c) (old.names ++ map (bit_at n) places) (apart c (clocked c (sym adds.clock_is ∙ same))));
}
  where
    n : ℕ
    n = length old.variables

    longer : length new.variables ≡ n + 1
    longer = ap length adds.variables ∙ length-append old.variables (e ∷ [])

    names : new.names ≡ old.names ++ map (bit_at n) places
    names = adds.names ∙ ap (λ bs. old.names ++ bs) are

    below : AllByRecursion (λ (b : BitName). b.variable < n) old.names
    below = recursion_from_All (λ (b : BitName). b.variable < n) old.names h.below

    low : (c : BitName) → MayBeClock old places c → c.variable < length new.variables
    low c (inl k) = let less = h.clock_below c k in omega (arith, less, longer)
    low c (inr k) = omega (arith, k.0, longer)

    other_places : (c : BitName) (ps : List ℕ) → AllByRecursion (λ p. p ≢ c.place) ps → AllByRecursion (λ (b : BitName). b ≢ c) (map (bit_at n) ps)
    other_places c [] k = tt
    other_places c (p ∷ ps) k = ((λ same. k.0 (ap (λ (b : BitName). b.place) same)), other_places c ps k.1)

    apart : (c : BitName) → MayBeClock old places c → AllByRecursion (λ (b : BitName). b ≢ c) (old.names ++ map (bit_at n) places)
    apart c (inl k) =
        let less = h.clock_below c k in
        all_join (λ (b : BitName). b ≢ c) old.names (map (bit_at n) places) (recursion_from_All (λ (b : BitName). b ≢ c) old.names (h.apart_from_clock c k))
        (bits_of_variable n (λ (b : BitName). b ≢ c) (λ p same. let at : n ≡ c.variable = ap (λ (b : BitName). b.variable) same in omega (arith, at, less)) places)
    apart c (inr k) =
        all_join (λ (b : BitName). b ≢ c) old.names (map (bit_at n) places)
        (weaker (λ (b : BitName). b.variable < n) (λ b. b ≢ c) (λ b less same. let at : b.variable ≡ c.variable = ap (λ (x : BitName). x.variable) same in omega (arith, at, less, k.0)) old.names below) (other_places c places k.1)
