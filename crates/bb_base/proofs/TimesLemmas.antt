-- How often a net stands in a list.
use Rattle.std.proofs.Common.{◌≡◌, ℕ, ◌+◌, ◌<◌, ◌≤◌, ◌==◌, zero, suc, List, [], ◌∷◌, ◌++◌, length, cond, All, Bool, true, false, refl, sym, ◌∙◌, arith, ◌≢◌, subst, ap, eqb-true}
use Rattle.std.proofs.lemmas.Bool.Decides.{nat_tests}
use Rattle.std.proofs.lemmas.List.Elements.{recursion_from_All}
use Rattle.std.proofs.lemmas.List.Sums.{sum_by-append, sum_by-cons}
use Rattle.std.specs.List.{AllByRecursion, range_with_len}
use Rattle.bb_base.specs.Net.{times}
use Rattle.bb_base.proofs.Distinct.{Distinct}

pub times_join : (net : ℕ) (xs ys : List ℕ) → times net (xs ++ ys) ≡ times net xs + times net ys
times_join net xs ys = sum_by-append (λ m. cond (m == net) 1 0) xs ys

-- once more where it stands in front
pub times_head : (net x : ℕ) (xs : List ℕ) → times net (x ∷ xs) ≡ cond (x == net) 1 0 + times net xs
times_head net x xs = sum_by-cons (λ m. cond (m == net) 1 0) x xs

below_none : (net : ℕ) (xs : List ℕ) (n : ℕ) → n ≤ net → AllByRecursion (λ m. m < n) xs → times net xs ≡ 0
below_none net [] n past h = refl
below_none net (x ∷ xs) n past h =
    let rest = below_none net xs n past h.1 in
    let here = h.0 in
    let one = times_head net x xs in
    grind (arith, nat_tests)

-- a net beyond all of them doesn't stand there
pub times_past : (net : ℕ) (xs : List ℕ) (n : ℕ) → n ≤ net → All (λ m. m < n) xs → times net xs ≡ 0
times_past net xs n past h = below_none net xs n past (recursion_from_All (λ m. m < n) xs h)

-- in a range it stands at most once, and not before its start
pub times_range_before : (net from n : ℕ) → net < from → times net (range_with_len from n) ≡ 0
times_range_before net from zero h = refl
times_range_before net from (suc n) h =
    let rest = times_range_before net (from + 1) n (omega arith) in
    let one = times_head net from (range_with_len (from + 1) n) in
    grind (arith, nat_tests)

pub times_range : (net from n : ℕ) → times net (range_with_len from n) ≤ 1
times_range net from zero = omega arith
times_range net from (suc n) = by (from == net) refl (times_range net (from + 1) n)
  where
    by : (b : Bool) → (from == net) ≡ b → times net (range_with_len (from + 1) n) ≤ 1 → times net (range_with_len from (suc n)) ≤ 1
    by true e rest =
        let none = times_range_before net (from + 1) n (grind (arith, nat_tests)) in
        let one = times_head net from (range_with_len (from + 1) n) in
        grind (arith, nat_tests)
    by false e rest =
        let one = times_head net from (range_with_len (from + 1) n) in
        grind (arith, nat_tests)

-- how many times the nets below a count stand in a list together
abbrev pub total : ℕ → List ℕ → ℕ
total zero xs = 0
total (suc k) xs = times k xs + total k xs

pub total_none : (k : ℕ) → total k [] ≡ 0
total_none zero = refl
total_none (suc k) = omega (arith, total_none k)

pub total_past : (k x : ℕ) (xs : List ℕ) → k ≤ x → total k (x ∷ xs) ≡ total k xs
total_past zero x xs h = refl
total_past (suc k) x xs h =
    let rest = total_past k x xs (omega arith) in
    let one = times_head k x xs in
    grind (arith, nat_tests)

pub total_more : (k x : ℕ) (xs : List ℕ) → x < k → total k (x ∷ xs) ≡ 1 + total k xs
total_more zero x xs h = absurd (omega arith)
total_more (suc k) x xs h = by (x == k) refl (λ less. total_more k x xs less)
  where
    by : (b : Bool) → (x == k) ≡ b → (x < k → total k (x ∷ xs) ≡ 1 + total k xs) → total (suc k) (x ∷ xs) ≡ 1 + total (suc k) xs
    by true e rest =
        let past = total_past k x xs (grind (arith, nat_tests)) in
        let one = times_head k x xs in
        grind (arith, nat_tests)
    by false e rest =
        let less = rest (grind (arith, nat_tests)) in
        let one = times_head k x xs in
        grind (arith, nat_tests)

total_all : (k : ℕ) (xs : List ℕ) → AllByRecursion (λ m. m < k) xs → total k xs ≡ length xs
total_all k [] h = total_none k
total_all k (x ∷ xs) h = omega (arith, total_more k x xs h.0, total_all k xs h.1)

total_ones : (k : ℕ) (xs : List ℕ) → ((m : ℕ) → m < k → times m xs ≡ 1) → total k xs ≡ k
total_ones zero xs h = refl
total_ones (suc k) xs h = omega (arith, h k (omega arith), total_ones k xs (λ m less. h m (omega arith)))

-- a list in which each number below a count stands once, and no other, is as long as the count
pub length_once : (k : ℕ) (xs : List ℕ) → All (λ m. m < k) xs → ((m : ℕ) → m < k → times m xs ≡ 1) → length xs ≡ k
length_once k xs below once = sym (total_all k xs (recursion_from_All (λ m. m < k) xs below)) ∙ total_ones k xs once

-- what holds of all items holds of a net that stands there
pub standing : (Q : ℕ → Type 0) (net : ℕ) (nets : List ℕ) → 1 ≤ times net nets → AllByRecursion Q nets → Q net
standing Q net [] h all = absurd (omega (arith, h))
standing Q net (m ∷ nets) h all = by (m == net) refl (λ more. standing Q net nets more all.1)
  where
    by : (b : Bool) → (m == net) ≡ b → (1 ≤ times net nets → Q net) → Q net
    by true e rest = subst Q (eqb-true m net e) all.0
    by false e rest =
        let one = times_head net m nets in
        let none : cond {A = ℕ} (m == net) 1 0 ≡ 0 = ap (λ (b : Bool). cond {A = ℕ} b 1 0) e in
        rest (omega (arith, h, one, none))

-- a net that doesn't stand in a list is none of it
none_there : (net : ℕ) (nets : List ℕ) → times net nets ≡ 0 → AllByRecursion (λ m. m ≢ net) nets
none_there net [] h = tt
none_there net (m ∷ nets) h =
    let one = times_head net m nets in
    let rest : times net nets ≡ 0 = omega (arith, h, one) in
    let here : m ≢ net = λ e. grind (arith, nat_tests, h, one, e) in
    (here, none_there net nets rest)

-- nets that stand at most once are distinct
pub once_distinct : (nets : List ℕ) → ((net : ℕ) → times net nets ≤ 1) → Distinct nets
once_distinct [] h = tt
once_distinct (m ∷ nets) h =
    let none : times m nets ≡ 0 =
    let one = times_head m m nets in
    let most = h m in
    grind (arith, nat_tests, one, most) in
    (none_there m nets none, once_distinct nets (λ net. omega (arith, times_head net m nets, h net)))
