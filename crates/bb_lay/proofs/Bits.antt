-- Bits that become nets, one after another.
use Rattle.std.proofs.Common.{arith, ◌≡◌, ◌⊎◌, ℕ, ◌+◌, ◌<◌, ◌≤◌, suc, List, [], ◌∷◌, ◌++◌, map, filter, length, cond, All, Bool, true, false, Option, Some, None, IsSome, IfSome, ◌||◌, inl, inr, Contains, slice_get, slice_index, nat_lt, if◌then◌else◌, refl, sym, ap, subst, ◌∙◌, length-append, append_assoc, append-nil}
use Rattle.std.proofs.lemmas.Bool.Decides.{nat_tests}
use Rattle.std.proofs.lemmas.List.Elements.{filter-append, All-weaker}
use Rattle.std.specs.List.{list_any, range_with_len}
use Rattle.bb_base.specs.declared.variable.BitName.{BitName}
use Rattle.bb_base.specs.Variables.{bit_at, bit_eq}
use Rattle.bb_base.specs.Named.{Named}
use Rattle.bb_base.specs.Building.{with_net, IsEarlier}
use Rattle.bb_base.proofs.Lists.{map_join, length_map}
use Rattle.bb_base.proofs.Contained.{here, there, either, none_in, contains_at}
use Rattle.bb_written.proofs.Sizes.{filter_short}
use Rattle.std.proofs.lemmas.List.FromFn.{length-range_with_len}
use Rattle.std.proofs.lemmas.List.{get_or_append_left}
use Rattle.std.proofs.Math.Seq.{get_or-append_seam}
use Rattle.bb_net.proofs.PlaceLemmas.{range_push, bit_pushed, still_earlier}
use Rattle.bb_lay.specs.Laying.{with_bits, net_bits}

pub net_length : (now : Named) (bit : BitName) → length (with_net now bit).names ≤ length now.names + 1
net_length now bit = by (list_any (bit_eq bit) now.names)
  where
    by : (t : Bool) → length (if t then now.names else now.names ++ bit ∷ []) ≤ length now.names + 1
    by true = omega arith
    by false = omega (arith, length-append now.names (bit ∷ []))

-- a bit behind all others is a net more
pub net_pushed : (now new : Named) (number place : ℕ) → All (IsEarlier number place) now.names → new ≡ with_net now (bit_at number place) → new ≡ with_bits now (bit_at number place ∷ [])
net_pushed now new number place earlier added =
    let pushed : new.names ≡ now.names ++ bit_at number place ∷ [] = bit_pushed number place now.names new.names earlier (ap (λ (k : Named). k.names) added) in
    added ∙ ap (λ (k : Named). record now { names = k.names }) (sym added) ∙ (λ i. record now { names = pushed i })

-- a bit that stands is no net more
pub net_stands : (now : Named) (bit : BitName) → list_any (bit_eq bit) now.names ≡ true → with_net now bit ≡ now
net_stands now bit h = ap (λ (t : Bool). record now { names = if t then now.names else now.names ++ bit ∷ [] }) h

-- nets up to the next place
bits_push : (names : List BitName) (of number n : ℕ) → net_bits names of number (n + 1) ≡ net_bits names of number n ++ (if list_any (bit_eq (bit_at of n)) names then bit_at number n ∷ [] else [])
bits_push names of number n =
    let keeps : ℕ → Bool = λ place. list_any (bit_eq (bit_at of place)) names in
    let next : n + 1 ≡ suc n = omega arith in
    let here : 0 + n ≡ n = omega arith in
    ap (λ k. map (bit_at number) (filter keeps (range_with_len 0 k))) next ∙ ap (λ ks. map (bit_at number) (filter keeps ks)) (range_push 0 n ∙ ap (λ k. range_with_len 0 n ++ k ∷ []) here)
    ∙ ap (map (bit_at number)) (filter-append keeps (range_with_len 0 n) (n ∷ [])) ∙ by (keeps n)
  where
    by : (b : Bool) → map (bit_at number) (filter (λ place. list_any (bit_eq (bit_at of place)) names) (range_with_len 0 n) ++ cond b (n ∷ []) []) ≡ net_bits names of number n ++ (if b then bit_at number n ∷ [] else [])
    by true = map_join (bit_at number) (filter (λ place. list_any (bit_eq (bit_at of place)) names) (range_with_len 0 n)) (n ∷ [])
    by false = map_join (bit_at number) (filter (λ place. list_any (bit_eq (bit_at of place)) names) (range_with_len 0 n)) []

-- the next place is a net's, or not
pub place_added : (old now new : Named) (names : List BitName) (of number n : ℕ) → now ≡ with_bits old (net_bits names of number n) → All (IsEarlier number n) now.names → list_any (bit_eq (bit_at of n)) names ≡ true
    → new ≡ with_bits now (bit_at number n ∷ []) → (new ≡ with_bits old (net_bits names of number (n + 1))) × All (IsEarlier number (n + 1)) new.names
place_added old now new names of number n so_far earlier keep added =
    let next : net_bits names of number (n + 1) ≡ net_bits names of number n ++ bit_at number n ∷ [] = bits_push names of number n ∙ ap (λ (b : Bool). net_bits names of number n ++ (if b then bit_at number n ∷ [] else [])) keep in
    let pushed : new.names ≡ now.names ++ bit_at number n ∷ [] = ap (λ (k : Named). k.names) added in
    let all : now.names ++ bit_at number n ∷ [] ≡ old.names ++ net_bits names of number (n + 1) =
    ap (λ (k : Named). k.names ++ bit_at number n ∷ []) so_far ∙ append_assoc old.names (net_bits names of number n) (bit_at number n ∷ []) ∙ ap (λ bs. old.names ++ bs) (sym next) in
    (added ∙ (λ i. record (so_far i) { names = all i }), still_earlier number n now.names new.names earlier pushed)

pub place_passed : (old now : Named) (names : List BitName) (of number n : ℕ) → now ≡ with_bits old (net_bits names of number n) → All (IsEarlier number n) now.names → list_any (bit_eq (bit_at of n)) names ≡ false
    → (now ≡ with_bits old (net_bits names of number (n + 1))) × All (IsEarlier number (n + 1)) now.names
place_passed old now names of number n so_far earlier keep =
    let next : net_bits names of number (n + 1) ≡ net_bits names of number n = bits_push names of number n ∙ ap (λ (b : Bool). net_bits names of number n ++ (if b then bit_at number n ∷ [] else [])) keep ∙ append-nil (net_bits names of number n) in
    (so_far ∙ ap (with_bits old) (sym next), All-weaker (IsEarlier number n) (IsEarlier number (n + 1)) (λ b k. (λ same. omega (arith, k.0 same), k.1)) now.names earlier)

-- a bit stands among names exactly where it is found
own_bit : (bit : BitName) → bit_eq bit bit ≡ true
own_bit bit = grind (arith, nat_tests)

one_bit : (a b : BitName) → bit_eq a b ≡ true → a ≡ b
one_bit a b h =
    let variable : a.variable ≡ b.variable = grind (arith, nat_tests, h) in
    let place : a.place ≡ b.place = grind (arith, nat_tests, h) in
    λ i. record { variable = variable i; place = place i }

or_true : (t : Bool) → (t || true) ≡ true
or_true true = refl
or_true false = refl

pub stands_any : (bit : BitName) (names : List BitName) → Contains names bit → list_any (bit_eq bit) names ≡ true
stands_any bit [] h = absurd (none_in bit h)
stands_any bit (b ∷ names) h = by (either b names bit h) (λ more. stands_any bit names more)
  where
    by : (b ≡ bit) ⊎ Contains names bit → (Contains names bit → list_any (bit_eq bit) names ≡ true) → (bit_eq bit b || list_any (bit_eq bit) names) ≡ true
    by (inl e) rest = ap (λ (k : BitName). bit_eq bit k || list_any (bit_eq bit) names) e ∙ ap (λ t. t || list_any (bit_eq bit) names) (own_bit bit)
    by (inr more) rest = ap (λ t. bit_eq bit b || t) (rest more) ∙ or_true (bit_eq bit b)

pub any_stands : (bit : BitName) (names : List BitName) → list_any (bit_eq bit) names ≡ true → Contains names bit
any_stands bit [] h = absurd (cc h)
any_stands bit (b ∷ names) h = by (bit_eq bit b) refl h (λ more. any_stands bit names more)
  where
    by : (t : Bool) → bit_eq bit b ≡ t → (t || list_any (bit_eq bit) names) ≡ true → (list_any (bit_eq bit) names ≡ true → Contains names bit) → Contains (b ∷ names) bit
    by true e k rest = subst (λ (x : BitName). Contains (b ∷ names) x) (sym (one_bit bit b e)) (here b names)
    by false e k rest = there b names bit (rest k)

-- what a look for a bit tells
pub found_any : (found : Option ℕ) (bit : BitName) (names : List BitName) → IfSome found (λ net. slice_get names net ≡ Some bit) → IsSome found → list_any (bit_eq bit) names ≡ true
found_any None bit names h some = absurd (cc some)
found_any (Some net) bit names h some = stands_any bit names (contains_at names net bit h)

pub missed_any : (bit : BitName) (names : List BitName) → (Contains names bit → ⊥) → list_any (bit_eq bit) names ≡ false
missed_any bit names h = by (list_any (bit_eq bit) names) refl
  where
    by : (t : Bool) → list_any (bit_eq bit) names ≡ t → t ≡ false
    by true e = absurd (h (any_stands bit names e))
    by false e = refl

-- there are no more nets than places
pub net_bits_few : (names : List BitName) (of number n : ℕ) → length (net_bits names of number n) ≤ n
net_bits_few names of number n =
    let keeps : ℕ → Bool = λ place. list_any (bit_eq (bit_at of place)) names in
    omega (arith, length_map (bit_at number) (filter keeps (range_with_len 0 n)), filter_short keeps (range_with_len 0 n), length-range_with_len 0 n)

-- one more net in a list of nets
pub each_more : (P : ℕ → ℕ → Type 0) (nets new : List ℕ) (net i : ℕ) → length nets ≡ i → new ≡ nets ++ net ∷ [] → P i net → ((k : ℕ) → k < i → P k (slice_index nets k)) → (k : ℕ) → k < i + 1 → P k (slice_index new k)
each_more P nets new net i long e here old k less = by (nat_lt k i) refl
  where
    by : (b : Bool) → nat_lt k i ≡ b → P k (slice_index new k)
    by true t =
        let within : k < i = grind (arith, nat_tests) in
        let same : slice_index new k ≡ slice_index nets k = ap (λ ns. slice_index ns k) e ∙ get_or_append_left nets (net ∷ []) 0 k (omega (arith, long, within)) in
        subst (P k) (sym same) (old k within)
    by false t =
        let last : i ≤ k = grind (arith, nat_tests) in
        let at : k ≡ length nets = omega (arith, long, last, less) in
        let same : slice_index new k ≡ net = ap (λ ns. slice_index ns k) e ∙ ap (slice_index (nets ++ net ∷ [])) at ∙ get_or-append_seam nets net [] 0 in
        let one : i ≡ k = omega (arith, last, less) in
        subst (λ j. P j (slice_index new k)) one (subst (P i) (sym same) here)
