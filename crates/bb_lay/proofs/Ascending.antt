-- Lists whose items ascend: joined, filtered, and the places of a variable.
use Rattle.std.proofs.Common.{arith, ◌≢◌, ℕ, ◌+◌, ◌-◌, ◌<◌, ◌≤◌, zero, suc, List, [], ◌∷◌, ◌++◌, map, filter, length, cond, Bool, true, false, Option, Some, None, refl, length-append, inr}
use Rattle.std.proofs.lemmas.List.FromFn.{length-range_with_len}
use Rattle.std.specs.List.{AllByRecursion, range_with_len}
use Rattle.std.specs.Option.{ForSome}
use Rattle.bb_base.specs.declared.variable.BitName.{BitName}
use Rattle.bb_base.specs.Variables.{bit_at, places_but, StandsBefore}
use Rattle.bb_base.proofs.Lists.{all_join}
use Rattle.bb_netlist.proofs.Sorting.{Ascends}
use Rattle.bb_written.proofs.Sizes.{filter_short}

pub ascends_join : {X : Type 0} (R : X → X → Type 0) (xs ys : List X) → Ascends R xs → Ascends R ys → AllByRecursion (λ x. AllByRecursion (R x) ys) xs → Ascends R (xs ++ ys)
ascends_join R [] ys h k between = k
ascends_join R (x ∷ xs) ys h k between = (all_join (R x) xs ys h.0 between.0, ascends_join R xs ys h.1 k between.1)

pub weaker : {X : Type 0} (P Q : X → Type 0) → ((x : X) → P x → Q x) → (xs : List X) → AllByRecursion P xs → AllByRecursion Q xs
weaker P Q f [] h = tt
weaker P Q f (x ∷ xs) h = (f x h.0, weaker P Q f xs h.1)

-- a filter keeps facts of all items, their order, and is no longer
pub filter_all : {X : Type 0} (P : X → Type 0) (test : X → Bool) (xs : List X) → AllByRecursion P xs → AllByRecursion P (filter test xs)
filter_all P test [] h = tt
filter_all {X} P test (x ∷ xs) h = by (test x) (filter_all P test xs h.1)
  where
    by : (b : Bool) → AllByRecursion P (filter test xs) → AllByRecursion P (cond b (x ∷ filter test xs) (filter test xs))
    by true rest = (h.0, rest)
    by false rest = rest

pub filter_ascends : {X : Type 0} (R : X → X → Type 0) (test : X → Bool) (xs : List X) → Ascends R xs → Ascends R (filter test xs)
filter_ascends R test [] h = tt
filter_ascends {X} R test (x ∷ xs) h = by (test x) (filter_ascends R test xs h.1)
  where
    by : (b : Bool) → Ascends R (filter test xs) → Ascends R (cond b (x ∷ filter test xs) (filter test xs))
    by true rest = (filter_all (R x) test xs h.0, rest)
    by false rest = rest

-- places of one variable
abbrev pub Before : ℕ → ℕ → Type 0
Before a b = a < b

pub range_within : (low high from n : ℕ) → low ≤ from → from + n ≤ high → AllByRecursion (λ m. (low ≤ m) × (m < high)) (range_with_len from n)
range_within low high from zero a b = tt
range_within low high from (suc n) a b = ((a, omega (arith, b)), range_within low high (from + 1) n (omega (arith, a)) (omega (arith, b)))

pub range_ascends : (from n : ℕ) → Ascends Before (range_with_len from n)
range_ascends from zero = tt
range_ascends from (suc n) = (weaker (λ m. (from + 1 ≤ m) × (m < from + 1 + n)) (Before from) (λ m h. omega (arith, h.0)) (range_with_len (from + 1) n) (range_within (from + 1) (from + 1 + n) (from + 1) n (omega arith) (omega arith)), range_ascends (from + 1) n)

-- places of a variable of this width, from left to right
pub record ArePlaces (width : ℕ) (places : List ℕ) : Type 0 where
  pub ascend : Ascends Before places
  pub below : AllByRecursion (λ p. p < width) places
  pub few : length places ≤ width

pub filtered_places : (test : ℕ → Bool) (width : ℕ) → ArePlaces width (filter test (range_with_len 0 width))
filtered_places test width = record {
  ascend = filter_ascends Before test (range_with_len 0 width) (range_ascends 0 width);
  below = filter_all (λ p. p < width) test (range_with_len 0 width) (weaker (λ m. (0 ≤ m) × (m < width)) (λ p. p < width) (λ m h. h.1) (range_with_len 0 width) (range_within 0 width 0 width (omega arith) (omega arith)));
  few = omega (arith, filter_short test (range_with_len 0 width), length-range_with_len 0 width);
}

pub all_places : (width : ℕ) → ArePlaces width (range_with_len 0 width)
all_places width = record {
  ascend = range_ascends 0 width;
  below = weaker (λ m. (0 ≤ m) × (m < width)) (λ p. p < width) (λ m h. h.1) (range_with_len 0 width) (range_within 0 width 0 width (omega arith) (omega arith));
  few = omega (arith, length-range_with_len 0 width);
}

pub left_places : (clock : Option ℕ) (width : ℕ) → ForSome clock (λ p. p < width) → ArePlaces width (places_but clock width)
left_places None width h = all_places width
left_places (Some p) width h =
    let within : p < width = h p refl in
    let front : AllByRecursion (λ m. (0 ≤ m) × (m < p)) (range_with_len 0 p) = range_within 0 p 0 p (omega arith) (omega arith) in
    let back : AllByRecursion (λ m. (p + 1 ≤ m) × (m < width)) (range_with_len (p + 1) (width - (p + 1))) = range_within (p + 1) width (p + 1) (width - (p + 1)) (omega arith) (omega (arith, within)) in
    record {
      ascend = ascends_join Before (range_with_len 0 p) (range_with_len (p + 1) (width - (p + 1))) (range_ascends 0 p) (range_ascends (p + 1) (width - (p + 1)))
          (weaker (λ m. (0 ≤ m) × (m < p)) (λ m. AllByRecursion (Before m) (range_with_len (p + 1) (width - (p + 1)))) (λ m h. weaker (λ k. (p + 1 ≤ k) × (k < width)) (Before m) (λ k l. omega (arith, h.1, l.0)) (range_with_len (p + 1) (width - (p + 1))) back) (range_with_len 0 p) front);
      below = all_join (λ m. m < width) (range_with_len 0 p) (range_with_len (p + 1) (width - (p + 1))) (weaker (λ m. (0 ≤ m) × (m < p)) (λ m. m < width) (λ m h. omega (arith, h.1, within)) (range_with_len 0 p) front)
          (weaker (λ k. (p + 1 ≤ k) × (k < width)) (λ m. m < width) (λ k l. l.1) (range_with_len (p + 1) (width - (p + 1))) back);
      few = omega (arith, length-append (range_with_len 0 p) (range_with_len (p + 1) (width - (p + 1))), length-range_with_len 0 p, length-range_with_len (p + 1) (width - (p + 1)), within);
    }

-- the place that was left out is not among them
pub place_left : (p width : ℕ) → p < width → AllByRecursion (λ m. m ≢ p) (places_but (Some p) width)
place_left p width within =
    all_join (λ m. m ≢ p) (range_with_len 0 p) (range_with_len (p + 1) (width - (p + 1)))
    (weaker (λ m. (0 ≤ m) × (m < p)) (λ m. m ≢ p) (λ m h e. omega (arith, h.1, e)) (range_with_len 0 p) (range_within 0 p 0 p (omega arith) (omega arith)))
    (weaker (λ m. (p + 1 ≤ m) × (m < width)) (λ m. m ≢ p) (λ m h e. omega (arith, h.0, e)) (range_with_len (p + 1) (width - (p + 1))) (range_within (p + 1) width (p + 1) (width - (p + 1)) (omega arith) (omega (arith, within))))

-- their bits
pub place_bits : (number : ℕ) (places : List ℕ) → Ascends Before places → Ascends StandsBefore (map (bit_at number) places)
place_bits number [] h = tt
place_bits number (p ∷ places) h = (each places h.0, place_bits number places h.1)
  where
    each : (ps : List ℕ) → AllByRecursion (Before p) ps → AllByRecursion (StandsBefore (bit_at number p)) (map (bit_at number) ps)
    each [] k = tt
    each (q ∷ ps) k = (inr (refl, k.0), each ps k.1)

pub bits_of_variable : (number : ℕ) (P : BitName → Type 0) → ((p : ℕ) → P (bit_at number p)) → (places : List ℕ) → AllByRecursion P (map (bit_at number) places)
bits_of_variable number P h [] = tt
bits_of_variable number P h (p ∷ places) = (h p, bits_of_variable number P h places)
