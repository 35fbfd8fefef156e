-- The numbers of ports' bits, in the order of variables, are those of their names.
use Rattle.std.proofs.Common.{◌≡◌, ℕ, ◌+◌, ◌-◌, ◌<◌, ◌≤◌, zero, suc, List, [], ◌∷◌, ◌++◌, length, map, Some, None, Bool, true, false, not, nat_eq, nat_lt, slice_get, refl, sym, ap, ◌∙◌, arith, subst, append_assoc, length-append, if◌then◌else◌}
use Rattle.std.specs.Prelude.{filter}
use Rattle.std.specs.List.{AllByRecursion, range_with_len}
use Rattle.std.proofs.lemmas.Bool.Decides.{nat_tests}
use Rattle.std.proofs.lemmas.Option.{same_Some}
use Rattle.std.proofs.lemmas.List.Elements.{filter-append}
use Rattle.std.proofs.lemmas.List.Folds.{list_any-append}
use Rattle.bb_base.specs.declared.variable.BitName.{BitName}
use Rattle.bb_base.specs.declared.variable.Role.{Role}
use Rattle.bb_base.specs.declared.variable.Variable.{Variable}
use Rattle.bb_base.specs.Net.{times}
use Rattle.bb_base.specs.Variables.{Entry, IsBit, range_width, places_but, bit_at, data_bits, role_bits, bit_eq, bit_count}
use Rattle.bb_base.proofs.Lists.{map_join, all_join, get_back}
use Rattle.bb_base.proofs.BitLemmas.{same_bits, bit_eq_itself}
use Rattle.bb_base.proofs.TimesLemmas.{times_join, times_range, times_range_before}
use Rattle.bb_drive.specs.Nets.{bits_from, has_bit}
use Rattle.bb_print.proofs.PrintedBits.{bit_number, number_of, one_number}
use Rattle.bb_print.proofs.Sieves.{all_true, filter_all, filter_map, filter_same, or_left, or_right}
use Rattle.bb_print.proofs.NumberLists.{range_has, times_past_range}

-- filters ---------------------------------------------------------------------

-- numbers of names ---------------------------------------------------------------

number_past : (pre : List Entry) (v : Entry) (vs : List Entry) (place : ℕ) → bit_number (pre ++ v ∷ vs) (length pre) place ≡ bit_count pre + place
number_past [] v vs place = omega arith
number_past (w ∷ pre) v vs place =
    let rec = number_past pre v vs place in
    omega (arith, rec)

count_past : (pre : List Entry) (v : Entry) → bit_count (pre ++ v ∷ []) ≡ bit_count pre + range_width v.1.range
count_past [] v = omega arith
count_past (w ∷ pre) v =
    let rec = count_past pre v in
    omega (arith, rec)

chunk_numbers : (pre : List Entry) (v : Entry) (vs : List Entry) (from n : ℕ) → map (number_of (pre ++ v ∷ vs)) (map (bit_at (length pre)) (range_with_len from n)) ≡ range_with_len (bit_count pre + from) n
chunk_numbers pre v vs from zero = refl
chunk_numbers pre v vs from (suc n) =
    let next : bit_count pre + (from + 1) ≡ (bit_count pre + from) + 1 = omega arith in
    (λ i. number_past pre v vs from i ∷ (chunk_numbers pre v vs (from + 1) n ∙ ap (λ z. range_with_len z n) next) i)

chunk_is : (b : Bool) (pre : List Entry) (v : Entry) (vs : List Entry) → map (number_of (pre ++ v ∷ vs)) (if b then data_bits None (length pre) v.1 else []) ≡ (if b then range_with_len (bit_count pre) (range_width v.1.range) else [])
chunk_is true pre v vs =
    let start : bit_count pre + 0 ≡ bit_count pre = omega arith in
    chunk_numbers pre v vs 0 (range_width v.1.range) ∙ ap (λ z. range_with_len z (range_width v.1.range)) start
chunk_is false pre v vs = refl

pub names_numbers : (passes : Role → Bool) (pre vs : List Entry) → map (number_of (pre ++ vs)) (role_bits passes None (length pre) vs) ≡ bits_from passes (bit_count pre) vs
names_numbers passes pre [] = refl
names_numbers passes pre (v ∷ vs) =
    let chunk : List BitName = if passes v.1.role then data_bits None (length pre) v.1 else [] in
    let whole : (pre ++ v ∷ []) ++ vs ≡ pre ++ v ∷ vs = append_assoc pre (v ∷ []) vs in
    let count : length (pre ++ v ∷ []) ≡ length pre + 1 = length-append pre (v ∷ []) in
    let rest : map (number_of (pre ++ v ∷ vs)) (role_bits passes None (length pre + 1) vs) ≡ bits_from passes (bit_count pre + range_width v.1.range) vs =
    (λ i. map (number_of (sym whole i)) (role_bits passes None (sym count i) vs)) ∙ names_numbers passes (pre ++ v ∷ []) vs ∙ ap (λ z. bits_from passes z vs) (count_past pre v) in
    map_join (number_of (pre ++ v ∷ vs)) chunk (role_bits passes None (length pre + 1) vs) ∙ (λ i. chunk_is (passes v.1.role) pre v vs i ++ rest i)

-- the names are those of bits
chunk_bits : (pre : List Entry) (v : Entry) (vs : List Entry) (from n : ℕ) → from + n ≤ range_width v.1.range → AllByRecursion (IsBit (pre ++ v ∷ vs)) (map (bit_at (length pre)) (range_with_len from n))
chunk_bits pre v vs from zero h = tt
chunk_bits pre v vs from (suc n) h =
    let here : length pre ≡ length pre + 0 = omega arith in
    (record { entry = v; stands = ap (slice_get (pre ++ v ∷ vs)) here ∙ get_back pre (v ∷ vs) 0; place = omega arith }, chunk_bits pre v vs (from + 1) n (omega arith))

pub names_stand : (passes : Role → Bool) (pre vs : List Entry) → AllByRecursion (IsBit (pre ++ vs)) (role_bits passes None (length pre) vs)
names_stand passes pre [] = tt
names_stand passes pre (v ∷ vs) =
    let whole : (pre ++ v ∷ []) ++ vs ≡ pre ++ v ∷ vs = append_assoc pre (v ∷ []) vs in
    let count : length (pre ++ v ∷ []) ≡ length pre + 1 = length-append pre (v ∷ []) in
    all_join (IsBit (pre ++ v ∷ vs)) (if passes v.1.role then data_bits None (length pre) v.1 else []) (role_bits passes None (length pre + 1) vs) (go (passes v.1.role))
    (subst (λ z. AllByRecursion (IsBit (pre ++ v ∷ vs)) (role_bits passes None z vs)) count (subst (λ z. AllByRecursion (IsBit z) (role_bits passes None (length (pre ++ v ∷ [])) vs)) whole (names_stand passes (pre ++ v ∷ []) vs)))
  where
    go : (b : Bool) → AllByRecursion (IsBit (pre ++ v ∷ vs)) (if b then data_bits None (length pre) v.1 else [])
    go true = chunk_bits pre v vs 0 (range_width v.1.range) (omega arith)
    go false = tt

-- names without the clock -----------------------------------------------------------

keeps_past : (p from n : ℕ) → p < from → filter (λ q. not (nat_eq p q)) (range_with_len from n) ≡ range_with_len from n
keeps_past p from zero h = refl
keeps_past p from (suc n) h =
    let other : nat_eq p from ≡ false = grind (arith, nat_tests) in
    rw other (ap (λ z. from ∷ z) (keeps_past p (from + 1) n (omega arith)))

places_are : (p from n : ℕ) → from ≤ p → p < from + n → filter (λ q. not (nat_eq p q)) (range_with_len from n) ≡ range_with_len from (p - from) ++ range_with_len (p + 1) ((from + n) - (p + 1))
places_are p from zero a b = absurd (omega arith)
places_are p from (suc n) a b = go (nat_eq p from) refl (λ less. places_are p (from + 1) n less (omega arith))
  where
    go : (t : Bool) → nat_eq p from ≡ t → ((from + 1 ≤ p) → filter (λ q. not (nat_eq p q)) (range_with_len (from + 1) n) ≡ range_with_len (from + 1) (p - (from + 1)) ++ range_with_len (p + 1) (((from + 1) + n) - (p + 1)))
        → filter (λ q. not (nat_eq p q)) (range_with_len from (suc n)) ≡ range_with_len from (p - from) ++ range_with_len (p + 1) ((from + suc n) - (p + 1))
    go true t rest =
        let same : p ≡ from = grind (arith, nat_tests) in
        let none : 0 ≡ p - from = omega (arith, same) in
        let start : from + 1 ≡ p + 1 = omega (arith, same) in
        let left : n ≡ (from + suc n) - (p + 1) = omega (arith, same) in
        rw t (keeps_past p (from + 1) n (omega (arith, same)) ∙ (λ i. range_with_len from (none i) ++ range_with_len (start i) (left i)))
    go false t rest =
        let other : from + 1 ≤ p = grind (arith, nat_tests) in
        let one : suc (p - (from + 1)) ≡ p - from = omega (arith, other) in
        let left : ((from + 1) + n) - (p + 1) ≡ (from + suc n) - (p + 1) = omega arith in
        rw t (ap (λ z. from ∷ z) (rest other) ∙ (λ i. range_with_len from (one i) ++ range_with_len (p + 1) (left i)))

same_variable : (c : BitName) (k q : ℕ) → c.variable ≡ k → bit_eq c (bit_at k q) ≡ nat_eq c.place q
same_variable c k q e = grind (arith, nat_tests)

other_variable : (c : BitName) (k q : ℕ) → nat_eq c.variable k ≡ false → bit_eq c (bit_at k q) ≡ false
other_variable c k q e = grind (arith, nat_tests)

data_are : (c : BitName) (k : ℕ) (v : Variable) → (c.variable ≡ k → c.place < range_width v.range) → data_bits (Some c) k v ≡ filter (λ b. not (bit_eq c b)) (data_bits None k v)
data_are c k v h = go (nat_eq c.variable k) refl
  where
    go : (t : Bool) → nat_eq c.variable k ≡ t → map (bit_at k) (places_but (if t then Some c.place else None) (range_width v.range)) ≡ filter (λ b. not (bit_eq c b)) (map (bit_at k) (range_with_len 0 (range_width v.range)))
    go true t =
        let same : c.variable ≡ k = grind (arith, nat_tests) in
        let less : c.place < range_width v.range = h same in
        let all : (q : ℕ) → not (nat_eq c.place q) ≡ not (bit_eq c (bit_at k q)) = λ q. ap not (sym (same_variable c k q same)) in
        let count : c.place - 0 ≡ c.place = omega arith in
        let left : (0 + range_width v.range) - (c.place + 1) ≡ range_width v.range - (c.place + 1) = omega arith in
        let places : filter (λ q. not (nat_eq c.place q)) (range_with_len 0 (range_width v.range)) ≡ range_with_len 0 c.place ++ range_with_len (c.place + 1) (range_width v.range - (c.place + 1)) =
        places_are c.place 0 (range_width v.range) (omega arith) (omega (arith, less)) ∙ (λ i. range_with_len 0 (count i) ++ range_with_len (c.place + 1) (left i)) in
        ap (map (bit_at k)) (sym places) ∙ ap (λ (f : ℕ → Bool). map (bit_at k) (filter f (range_with_len 0 (range_width v.range)))) (λ i q. all q i) ∙ sym (filter_map (λ b. not (bit_eq c b)) (bit_at k) (range_with_len 0 (range_width v.range)))
    go false t =
        sym (filter_map (λ b. not (bit_eq c b)) (bit_at k) (range_with_len 0 (range_width v.range))
        ∙ ap (map (bit_at k)) (filter_all (λ q. not (bit_eq c (bit_at k q))) (range_with_len 0 (range_width v.range)) (all_true (λ q. not (bit_eq c (bit_at k q))) (λ q. ap not (other_variable c k q t)) (range_with_len 0 (range_width v.range)))))

pub names_but : (passes : Role → Bool) (c : BitName) (k : ℕ) (vs : List Entry) → ((i : ℕ) (v : Entry) → slice_get vs i ≡ Some v → c.variable ≡ k + i → c.place < range_width v.1.range)
    → role_bits passes (Some c) k vs ≡ filter (λ b. not (bit_eq c b)) (role_bits passes None k vs)
names_but passes c k [] h = refl
names_but passes c k (v ∷ vs) h =
    let test : BitName → Bool = λ b. not (bit_eq c b) in
    let chunk : List BitName = if passes v.1.role then data_bits None k v.1 else [] in
    let rest = names_but passes c (k + 1) vs (λ i w at e. h (suc i) w at (e ∙ next i)) in
    (λ i. go (passes v.1.role) i ++ rest i) ∙ sym (filter-append test chunk (role_bits passes None (k + 1) vs))
  where
    next : (i : ℕ) → (k + 1) + i ≡ k + suc i
    next i = omega arith

    here : k ≡ k + 0
    here = omega arith

    go : (b : Bool) → (if b then data_bits (Some c) k v.1 else []) ≡ filter (λ x. not (bit_eq c x)) (if b then data_bits None k v.1 else [])
    go true = data_are c k v.1 (λ e. h 0 v refl (e ∙ here))
    go false = refl

-- bits of other variables are the same with and without a clock
pub names_apart : (passes : Role → Bool) (c : BitName) (k : ℕ) (vs : List Entry) → ((i : ℕ) (v : Entry) → slice_get vs i ≡ Some v → c.variable ≡ k + i → passes v.1.role ≡ false) → role_bits passes (Some c) k vs ≡ role_bits passes None k vs
names_apart passes c k [] h = refl
names_apart passes c k (v ∷ vs) h =
    let rest = names_apart passes c (k + 1) vs (λ i w at e. h (suc i) w at (e ∙ next i)) in
    (λ i. go (passes v.1.role) (nat_eq c.variable k) refl refl i ++ rest i)
  where
    next : (i : ℕ) → (k + 1) + i ≡ k + suc i
    next i = omega arith

    here : k ≡ k + 0
    here = omega arith

    go : (b t : Bool) → passes v.1.role ≡ b → nat_eq c.variable k ≡ t → (if b then map (bit_at k) (places_but (if t then Some c.place else None) (range_width v.1.range)) else []) ≡ (if b then map (bit_at k) (range_with_len 0 (range_width v.1.range)) else [])
    go false t e f = refl
    go true false e f = refl
    go true true e f =
        let same : c.variable ≡ k = grind (arith, nat_tests) in
        cc (sym e ∙ h 0 v refl (same ∙ here))

-- numbers without the clock's
same_test : (vs : List Entry) (c b : BitName) → IsBit vs c → IsBit vs b → nat_eq (number_of vs c) (number_of vs b) ≡ bit_eq c b
same_test vs c b h k = go (nat_eq (number_of vs c) (number_of vs b)) (bit_eq c b) refl refl
  where
    go : (x y : Bool) → nat_eq (number_of vs c) (number_of vs b) ≡ x → bit_eq c b ≡ y → x ≡ y
    go true true e f = refl
    go false false e f = refl
    go true false e f =
        let one : number_of vs c ≡ number_of vs b = grind (arith, nat_tests) in
        let same : c ≡ b = one_number vs c b h k one in
        cc (sym (bit_eq_itself c) ∙ ap (bit_eq c) same ∙ f)
    go false true e f =
        let one : number_of vs c ≡ number_of vs b = ap (number_of vs) (same_bits c b f) in
        grind (arith, nat_tests)

pub numbers_but : (vs : List Entry) (c : BitName) (bs : List BitName) → IsBit vs c → AllByRecursion (IsBit vs) bs → filter (λ n. not (nat_eq (number_of vs c) n)) (map (number_of vs) bs) ≡ map (number_of vs) (filter (λ b. not (bit_eq c b)) bs)
numbers_but vs c bs h all =
    filter_map (λ n. not (nat_eq (number_of vs c) n)) (number_of vs) bs
    ∙ ap (map (number_of vs)) (filter_same (λ b. not (nat_eq (number_of vs c) (number_of vs b))) (λ b. not (bit_eq c b)) (IsBit vs) (λ b k. ap not (same_test vs c b h k)) bs all)

pub bits_have : (passes : Role → Bool) (first : ℕ) (vs : List Entry) (i place : ℕ) (v : Entry) → slice_get vs i ≡ Some v → passes v.1.role ≡ true → place < range_width v.1.range → has_bit (bits_from passes first vs) (first + bit_number vs i place) ≡ true
bits_have passes first [] i place v at role less = cc
bits_have passes first (w ∷ ws) zero place v at role less =
    let same : w ≡ v = same_Some w v at in
    let test : passes w.1.role ≡ true = ap (λ (u : Entry). passes u.1.role) same ∙ role in
    let within : place < range_width w.1.range = subst (λ (u : Entry). place < range_width u.1.range) (sym same) less in
    let width : ℕ = range_width w.1.range in
    list_any-append (nat_eq (first + place)) (if passes w.1.role then range_with_len first width else []) (bits_from passes (first + width) ws)
    ∙ or_left (has_bit (if passes w.1.role then range_with_len first width else []) (first + place)) (has_bit (bits_from passes (first + width) ws) (first + place))
    (ap (λ t. has_bit (if t then range_with_len first width else []) (first + place)) test ∙ range_has first width (first + place) (omega arith) (omega (arith, within)))
bits_have passes first (w ∷ ws) (suc i) place v at role less =
    let width : ℕ = range_width w.1.range in
    let n : ℕ = first + (range_width w.1.range + bit_number ws i place) in
    let same : (first + range_width w.1.range) + bit_number ws i place ≡ first + (range_width w.1.range + bit_number ws i place) = omega arith in
    list_any-append (nat_eq n) (if passes w.1.role then range_with_len first width else []) (bits_from passes (first + width) ws)
    ∙ or_right (has_bit (if passes w.1.role then range_with_len first width else []) n) (has_bit (bits_from passes (first + width) ws) n)
    (ap (has_bit (bits_from passes (first + width) ws)) (sym same) ∙ bits_have passes (first + width) ws i place v at role less)

bits_before : (passes : Role → Bool) (b first : ℕ) (vs : List Entry) → b < first → times b (bits_from passes first vs) ≡ 0
bits_before passes b first [] h = refl
bits_before passes b first (v ∷ vs) h =
    let sum = times_join b (if passes v.1.role then range_with_len first (range_width v.1.range) else []) (bits_from passes (first + range_width v.1.range) vs) in
    let rest = bits_before passes b (first + range_width v.1.range) vs (omega arith) in
    let here = go (passes v.1.role) in
    omega (arith, sum, rest, here)
  where
    go : (t : Bool) → times b (if t then range_with_len first (range_width v.1.range) else []) ≡ 0
    go true = times_range_before b first (range_width v.1.range) h
    go false = refl

pub bits_once : (passes : Role → Bool) (b first : ℕ) (vs : List Entry) → times b (bits_from passes first vs) ≤ 1
bits_once passes b first [] = omega arith
bits_once passes b first (v ∷ vs) =
    let sum = times_join b (if passes v.1.role then range_with_len first (range_width v.1.range) else []) (bits_from passes (first + range_width v.1.range) vs) in
    go (nat_lt b (first + range_width v.1.range)) refl sum (bits_once passes b (first + range_width v.1.range) vs)
  where
    some : (t : Bool) → times b (if t then range_with_len first (range_width v.1.range) else []) ≤ 1
    some true = times_range b first (range_width v.1.range)
    some false = omega arith

    past : (t : Bool) → first + range_width v.1.range ≤ b → times b (if t then range_with_len first (range_width v.1.range) else []) ≡ 0
    past true h = times_past_range b first (range_width v.1.range) h
    past false h = refl

    go : (t : Bool) → nat_lt b (first + range_width v.1.range) ≡ t
        → times b ((if passes v.1.role then range_with_len first (range_width v.1.range) else []) ++ bits_from passes (first + range_width v.1.range) vs)
        ≡ times b (if passes v.1.role then range_with_len first (range_width v.1.range) else []) + times b (bits_from passes (first + range_width v.1.range) vs)
        → times b (bits_from passes (first + range_width v.1.range) vs) ≤ 1 → times b (bits_from passes first (v ∷ vs)) ≤ 1
    go true t sum rest =
        let less : b < first + range_width v.1.range = grind (arith, nat_tests) in
        let none = bits_before passes b (first + range_width v.1.range) vs less in
        omega (arith, sum, none, some (passes v.1.role))
    go false t sum rest =
        let more : first + range_width v.1.range ≤ b = grind (arith, nat_tests) in
        omega (arith, sum, rest, past (passes v.1.role) more)
