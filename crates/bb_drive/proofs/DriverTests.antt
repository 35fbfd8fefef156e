-- The tests of the definition on counts of bits.
use Rattle.std.proofs.Common.{arith, ◌≡◌, ◌≢◌, ℕ, zero, suc, ◌+◌, ◌<◌, min, slice_index, get_or, length, replicate, Bool, true, false, not, ◌&&◌, ◌||◌, cond, List, [], ◌∷◌, fold, refl, sym, ap, ◌∙◌}
use Rattle.std.specs.Prelude.{Some, nat_eq, nat_lt, find, filter, count_by}
use Rattle.std.specs.List.{range_with_len}
use Rattle.std.proofs.lemmas.Bool.Decides.{nat_tests}
use Rattle.std.proofs.lemmas.List.{get_or-set_same, get_or-set_other, get_or-replicate, length-replicate}
use Rattle.std.proofs.lemmas.List.Sums.{sum_by-cons}
use Rattle.bb_drive.specs.Nets.{has_bit}
use Rattle.bb_drive.specs.Tallies.{tally, tallies}
use Rattle.bb_drive.proofs.Tallied.{length-tally, length-counted}

-- counts ------------------------------------------------------------------

abbrev pub times : ℕ → List ℕ → ℕ
times m bits = count_by (nat_eq m) bits

times_head : (m b : ℕ) (bits : List ℕ) → times m (b ∷ bits) ≡ cond (nat_eq m b) 1 0 + times m bits
times_head m b bits = sum_by-cons (λ x. cond (nat_eq m x) 1 0) b bits

tally_at : (counts : List ℕ) (b m : ℕ) → m < length counts → min 2 (get_or (tally counts b) m 0) ≡ min 2 (get_or counts m 0 + cond (nat_eq m b) 1 0)
tally_at counts b m within = go (nat_eq m b) refl
  where
    go : (t : Bool) → nat_eq m b ≡ t → min 2 (get_or (tally counts b) m 0) ≡ min 2 (get_or counts m 0 + cond t 1 0)
    go true h =
        let same : m ≡ b = grind (arith, nat_tests, h) in
        let at : get_or (tally counts m) m 0 ≡ min 2 (get_or counts m 0 + 1) = get_or-set_same counts m (min 2 (slice_index counts m + 1)) 0 within in
        ap (λ x. min 2 (get_or (tally counts x) m 0)) (sym same) ∙ omega (arith, at)
    go false h =
        let other : m ≢ b = grind (arith, nat_tests, h) in
        let at : get_or (tally counts b) m 0 ≡ get_or counts m 0 = get_or-set_other counts b m (min 2 (slice_index counts b + 1)) 0 other in
        omega (arith, at)

counted : (counts bits : List ℕ) (m : ℕ) → m < length counts → min 2 (get_or (fold tally counts bits) m 0) ≡ min 2 (get_or counts m 0 + times m bits)
counted counts [] m within = omega arith
counted counts (b ∷ bits) m within =
    let rest = counted (tally counts b) bits m (omega (arith, length-tally counts b)) in
    omega (arith, rest, tally_at counts b m within, times_head m b bits)

pub length-tallies : (n : ℕ) (bits : List ℕ) → length (tallies n bits) ≡ n
length-tallies n bits = length-counted (replicate n 0) bits ∙ length-replicate n 0

-- a count up to two
tallied : (n : ℕ) (bits : List ℕ) (m : ℕ) → m < n → min 2 (get_or (tallies n bits) m 0) ≡ min 2 (times m bits)
tallied n bits m within =
    let all = counted (replicate n 0) bits m (let z : ℕ = 0 in omega (arith, length-replicate n z)) in
    let z : ℕ = 0 in
    omega (arith, all, get_or-replicate n m z z within)

has_times : (bits : List ℕ) (m : ℕ) → has_bit bits m ≡ nat_lt 0 (times m bits)
has_times [] m = refl
has_times (b ∷ bits) m = go (nat_eq m b) refl (has_times bits m)
  where
    go : (t : Bool) → nat_eq m b ≡ t → has_bit bits m ≡ nat_lt 0 (times m bits) → (t || has_bit bits m) ≡ nat_lt 0 (times m (b ∷ bits))
    go true h rest =
        let head : times m (b ∷ bits) ≡ 1 + times m bits = times_head m b bits ∙ ap (λ x. cond x 1 0 + times m bits) h in
        grind (arith, nat_tests, head)
    go false h rest =
        let one : times m (b ∷ bits) ≡ 0 + times m bits = times_head m b bits ∙ ap (λ x. cond x 1 0 + times m bits) h in
        let head : times m (b ∷ bits) ≡ times m bits = omega (arith, one) in
        rest ∙ ap (nat_lt 0) (sym head)

-- walks -------------------------------------------------------------------

find_same : (p q : ℕ → Bool) (first n : ℕ) → ((m : ℕ) → m < first + n → p m ≡ q m) → find p (range_with_len first n) ≡ find q (range_with_len first n)
find_same p q first zero h = refl
find_same p q first (suc n) h =
    let here = h first (omega arith) in
    let rest = find_same p q (first + 1) n (λ m k. h m (omega arith)) in
    (λ i. cond (here i) (Some first) (rest i))

filter_same : (p q : ℕ → Bool) (first n : ℕ) → ((m : ℕ) → m < first + n → p m ≡ q m) → filter p (range_with_len first n) ≡ filter q (range_with_len first n)
filter_same p q first zero h = refl
filter_same p q first (suc n) h =
    let here = h first (omega arith) in
    let rest = filter_same p q (first + 1) n (λ m k. h m (omega arith)) in
    (λ i. cond (here i) (first ∷ rest i) (rest i))

find_filter : (p q : ℕ → Bool) (xs : List ℕ) → find p (filter q xs) ≡ find (λ m. q m && p m) xs
find_filter p q [] = refl
find_filter p q (x ∷ xs) = go (q x) (find_filter p q xs)
  where
    go : (t : Bool) → find p (filter q xs) ≡ find (λ m. q m && p m) xs → find p (cond t (x ∷ filter q xs) (filter q xs)) ≡ cond (t && p x) (Some x) (find (λ m. q m && p m) xs)
    go true rest = ap (cond (p x) (Some x)) rest
    go false rest = rest

-- tests -------------------------------------------------------------------

-- a bit is a net where it is driven or read
abbrev is_used : List ℕ → List ℕ → ℕ → Bool
is_used ds rs b = has_bit ds b || has_bit rs b

some_test : (n : ℕ) (bits : List ℕ) (m : ℕ) → m < n → nat_lt 0 (slice_index (tallies n bits) m) ≡ has_bit bits m
some_test n bits m within = sym (has_times bits m ∙ (let all = tallied n bits m within in grind (arith, nat_tests)))

two_test : (n : ℕ) (bits : List ℕ) (m : ℕ) → m < n → nat_lt 1 (slice_index (tallies n bits) m) ≡ nat_lt 1 (times m bits)
two_test n bits m within = let all = tallied n bits m within in grind (arith, nat_tests)

none_test : (x : ℕ) → nat_eq x 0 ≡ not (nat_lt 0 x)
none_test x = grind (arith, nat_tests)

two_used : (t : ℕ) (d r : Bool) → d ≡ nat_lt 0 t → nat_lt 1 t ≡ ((d || r) && nat_lt 1 t)
two_used t true r h = refl
two_used t false r h = grind (arith, nat_tests)

not_driven : (d r : Bool) → (not d && r) ≡ ((d || r) && not d)
not_driven true r = refl
not_driven false true = refl
not_driven false false = refl

-- the first net with two drivers
pub first_twice_is :
    (n : ℕ) (ds rs counts : List ℕ) → counts ≡ tallies n ds
    → find (λ m. nat_lt 1 (slice_index counts m)) (range_with_len 0 (length counts)) ≡ find (λ b. nat_lt 1 (count_by (nat_eq b) ds)) (filter (λ b. has_bit ds b || has_bit rs b) (range_with_len 0 n))
first_twice_is n ds rs counts same =
    let long : length counts ≡ n = ap length same ∙ length-tallies n ds in
    let twice = λ (m : ℕ). nat_lt 1 (times m ds) in
    ap (λ k. find (λ m. nat_lt 1 (slice_index counts m)) (range_with_len 0 k)) long
    ∙ (ap (λ k. find (λ m. nat_lt 1 (slice_index k m)) (range_with_len 0 n)) same
    ∙ (find_same (λ m. nat_lt 1 (slice_index (tallies n ds) m)) (λ m. is_used ds rs m && twice m) 0 n
    (λ m h. two_test n ds m (omega arith) ∙ two_used (times m ds) (has_bit ds m) (has_bit rs m) (has_times ds m))
    ∙ sym (find_filter twice (is_used ds rs) (range_with_len 0 n))))

-- the first net without a driver
pub first_undriven_is :
    (n : ℕ) (ds rs drivers readers : List ℕ) → drivers ≡ tallies n ds → readers ≡ tallies n rs
    → find (λ m. nat_eq (slice_index drivers m) 0 && nat_lt 0 (slice_index readers m)) (range_with_len 0 (length drivers)) ≡ find (λ b. not (has_bit ds b)) (filter (λ b. has_bit ds b || has_bit rs b) (range_with_len 0 n))
first_undriven_is n ds rs drivers readers same also =
    let long : length drivers ≡ n = ap length same ∙ length-tallies n ds in
    ap (λ k. find (λ m. nat_eq (slice_index drivers m) 0 && nat_lt 0 (slice_index readers m)) (range_with_len 0 k)) long
    ∙ ((λ i. find (λ m. nat_eq (slice_index (same i) m) 0 && nat_lt 0 (slice_index (also i) m)) (range_with_len 0 n))
    ∙ (find_same (λ m. nat_eq (slice_index (tallies n ds) m) 0 && nat_lt 0 (slice_index (tallies n rs) m)) (λ m. is_used ds rs m && not (has_bit ds m)) 0 n
    (λ m h. (λ i. (none_test (slice_index (tallies n ds) m) ∙ ap not (some_test n ds m (omega arith))) i && some_test n rs m (omega arith) i) ∙ not_driven (has_bit ds m) (has_bit rs m))
    ∙ sym (find_filter (λ b. not (has_bit ds b)) (is_used ds rs) (range_with_len 0 n))))

-- the nets
pub used_are :
    (n : ℕ) (ds rs drivers readers : List ℕ) → drivers ≡ tallies n ds → readers ≡ tallies n rs
    → filter (λ m. nat_lt 0 (slice_index drivers m) || nat_lt 0 (slice_index readers m)) (range_with_len 0 (length drivers)) ≡ filter (λ b. has_bit ds b || has_bit rs b) (range_with_len 0 n)
used_are n ds rs drivers readers same also =
    let long : length drivers ≡ n = ap length same ∙ length-tallies n ds in
    ap (λ k. filter (λ m. nat_lt 0 (slice_index drivers m) || nat_lt 0 (slice_index readers m)) (range_with_len 0 k)) long
    ∙ ((λ i. filter (λ m. nat_lt 0 (slice_index (same i) m) || nat_lt 0 (slice_index (also i) m)) (range_with_len 0 n))
    ∙ filter_same (λ m. nat_lt 0 (slice_index (tallies n ds) m) || nat_lt 0 (slice_index (tallies n rs) m)) (is_used ds rs) 0 n
    (λ m h. (λ i. some_test n ds m (omega arith) i || some_test n rs m (omega arith) i)))
