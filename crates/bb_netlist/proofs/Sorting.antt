-- Numbers of gates by level, then by number: there is one such list of given numbers.
use Rattle.std.proofs.Common.{arith, ◌≡◌, ◌≢◌, ◌⊎◌, inl, inr, ℕ, suc, zero, ◌+◌, ◌<◌, ◌==◌, ◌&&◌, ◌||◌, Bool, true, false, List, [], ◌∷◌, refl, sym, ◌∙◌, cond, subst, nat_lt}
use Rattle.std.proofs.lemmas.Bool.Decides.{nat_tests}
use Rattle.std.proofs.lemmas.List.Elements.{All-from_recursion, recursion_from_All}
use Rattle.std.proofs.lemmas.List.Kept.{AllPairs-cons}
use Rattle.std.proofs.lemmas.List.Sorted.{IsPermutation-refl, IsPermutation-cons, IsPermutation-middle, IsPermutation-trans, IsPermutation-sym}
use Rattle.std.specs.Prelude.{AllPairs, Contains, if◌then◌else◌}
use Rattle.std.specs.List.{AllByRecursion, range_with_len}
use Rattle.std.specs.List.Sorted.{IsPermutation}
use Rattle.bb_base.specs.Order.{ComesBefore}
use Rattle.bb_base.proofs.Contained.{here, there, either, none_in, of_all}

-- R holds of each item and each later one
abbrev pub Ascends : {X : Type 0} → (X → X → Type 0) → List X → Type 0
Ascends R [] = Unit {0}
Ascends R (x ∷ xs) = AllByRecursion (R x) xs × Ascends R xs

pub pairs_ascend : {X : Type 0} (R : X → X → Type 0) (xs : List X) → AllPairs R xs → Ascends R xs
pairs_ascend R [] pairs = tt
pairs_ascend R (x ∷ xs) pairs = (
  recursion_from_All (R x) xs (λ k d small. pairs 0 (suc k) d (omega arith) (omega (arith, small))),
  pairs_ascend R xs (λ i j d less small. pairs (suc i) (suc j) d (omega (arith, less)) (omega (arith, small))),
)

pub ascend_pairs : {X : Type 0} (R : X → X → Type 0) (xs : List X) → Ascends R xs → AllPairs R xs
ascend_pairs R [] h = λ i j d less small. absurd (omega (arith, small))
ascend_pairs R (x ∷ xs) h = AllPairs-cons R x xs (All-from_recursion (R x) xs h.0) (ascend_pairs R xs h.1)

-- the test of what comes before
abbrev before : (ℕ → ℕ) → ℕ → ℕ → Bool
before level h j = nat_lt (level h) (level j) || ((level h == level j) && nat_lt h j)

is_before : (level : ℕ → ℕ) (h j : ℕ) → before level h j ≡ true → ComesBefore level h j
is_before level h j e = go (nat_lt (level h) (level j)) refl
  where
    go : (b : Bool) → nat_lt (level h) (level j) ≡ b → ComesBefore level h j
    go true f = inl (grind (arith, nat_tests, f))
    go false f = inr (grind (arith, nat_tests, e, f), grind (arith, nat_tests, e, f))

is_behind : (level : ℕ → ℕ) (h j : ℕ) → before level h j ≡ false → h ≢ j → ComesBefore level j h
is_behind level h j e apart = go (nat_lt (level j) (level h)) refl
  where
    go : (b : Bool) → nat_lt (level j) (level h) ≡ b → ComesBefore level j h
    go true f = inl (grind (arith, nat_tests, f))
    go false f =
        let same : level j ≡ level h = grind (arith, nat_tests, e, f) in
        inr (same, grind (arith, nat_tests, e, f, apart, same))

pub comes_later : (level : ℕ → ℕ) (a b c : ℕ) → ComesBefore level a b → ComesBefore level b c → ComesBefore level a c
comes_later level a b c (inl x) (inl y) = inl (omega (arith, x, y))
comes_later level a b c (inl x) (inr y) = inl (omega (arith, x, y.0))
comes_later level a b c (inr x) (inl y) = inl (omega (arith, x.0, y))
comes_later level a b c (inr x) (inr y) = inr (x.0 ∙ y.0, omega (arith, x.1, y.1))

pub never_both : (level : ℕ → ℕ) (a b : ℕ) → ComesBefore level a b → ComesBefore level b a → ⊥
never_both level a b (inl x) (inl y) = omega (arith, x, y)
never_both level a b (inl x) (inr y) = omega (arith, x, y.0)
never_both level a b (inr x) (inl y) = omega (arith, x.0, y)
never_both level a b (inr x) (inr y) = omega (arith, x.1, y.1)

abbrev insert_by : (ℕ → ℕ → Bool) → ℕ → List ℕ → List ℕ
insert_by b x [] = x ∷ []
insert_by b x (y ∷ ys) = if b x y then x ∷ y ∷ ys else y ∷ insert_by b x ys

abbrev pub sort_by : (ℕ → ℕ → Bool) → List ℕ → List ℕ
sort_by b [] = []
sort_by b (x ∷ xs) = insert_by b x (sort_by b xs)

insert_moves : (b : ℕ → ℕ → Bool) (x : ℕ) (ys : List ℕ) → IsPermutation (x ∷ ys) (insert_by b x ys)
insert_moves b x [] = IsPermutation-refl (x ∷ [])
insert_moves b x (y ∷ ys) = go (b x y) (insert_moves b x ys)
  where
    go : (t : Bool) → IsPermutation (x ∷ ys) (insert_by b x ys) → IsPermutation (x ∷ y ∷ ys) (cond t (x ∷ y ∷ ys) (y ∷ insert_by b x ys))
    go true rest = IsPermutation-refl (x ∷ y ∷ ys)
    go false rest =
        IsPermutation-trans (x ∷ y ∷ ys) (y ∷ x ∷ ys) (y ∷ insert_by b x ys) (IsPermutation-sym (y ∷ x ∷ ys) (x ∷ y ∷ ys) (IsPermutation-middle (y ∷ []) x ys))
        (IsPermutation-cons y (x ∷ ys) (insert_by b x ys) rest)

sort_moves : (b : ℕ → ℕ → Bool) (xs : List ℕ) → IsPermutation xs (sort_by b xs)
sort_moves b [] = IsPermutation-refl []
sort_moves b (x ∷ xs) = IsPermutation-trans (x ∷ xs) (x ∷ sort_by b xs) (insert_by b x (sort_by b xs)) (IsPermutation-cons x xs (sort_by b xs) (sort_moves b xs)) (insert_moves b x (sort_by b xs))

all_insert : (P : ℕ → Type 0) (b : ℕ → ℕ → Bool) (x : ℕ) (ys : List ℕ) → P x → AllByRecursion P ys → AllByRecursion P (insert_by b x ys)
all_insert P b x [] one all = (one, tt)
all_insert P b x (y ∷ ys) one all = go (b x y) (all_insert P b x ys one all.1)
  where
    go : (t : Bool) → AllByRecursion P (insert_by b x ys) → AllByRecursion P (cond t (x ∷ y ∷ ys) (y ∷ insert_by b x ys))
    go true rest = (one, all)
    go false rest = (all.0, rest)

all_sort : (P : ℕ → Type 0) (b : ℕ → ℕ → Bool) (xs : List ℕ) → AllByRecursion P xs → AllByRecursion P (sort_by b xs)
all_sort P b [] all = tt
all_sort P b (x ∷ xs) all = all_insert P b x (sort_by b xs) all.0 (all_sort P b xs all.1)

before_all : (level : ℕ → ℕ) (x y : ℕ) (ys : List ℕ) → ComesBefore level x y → AllByRecursion (ComesBefore level y) ys → AllByRecursion (ComesBefore level x) ys
before_all level x y [] first all = tt
before_all level x y (z ∷ ys) first all = (comes_later level x y z first all.0, before_all level x y ys first all.1)

insert_ascends : (level : ℕ → ℕ) (x : ℕ) (ys : List ℕ) → AllByRecursion (λ y. x ≢ y) ys → Ascends (ComesBefore level) ys → Ascends (ComesBefore level) (insert_by (before level) x ys)
insert_ascends level x [] apart rise = (tt, tt)
insert_ascends level x (y ∷ ys) apart rise = go (before level x y) refl (insert_ascends level x ys apart.1 rise.1)
  where
    go : (t : Bool) → before level x y ≡ t → Ascends (ComesBefore level) (insert_by (before level) x ys) → Ascends (ComesBefore level) (cond t (x ∷ y ∷ ys) (y ∷ insert_by (before level) x ys))
    go true e rest = let first = is_before level x y e in ((first, before_all level x y ys first rise.0), rise)
    go false e rest = (all_insert (ComesBefore level y) (before level) x ys (is_behind level x y e apart.0) rise.0, rest)

-- distinct numbers, sorted
abbrev Differ : List ℕ → Type 0
Differ xs = Ascends (λ x y. x ≢ y) xs

sort_ascends : (level : ℕ → ℕ) (xs : List ℕ) → Differ xs → Ascends (ComesBefore level) (sort_by (before level) xs)
sort_ascends level [] differ = tt
sort_ascends level (x ∷ xs) differ = insert_ascends level x (sort_by (before level) xs) (all_sort (λ y. x ≢ y) (before level) xs differ.0) (sort_ascends level xs differ.1)

range_apart : (x first n : ℕ) → x < first → AllByRecursion (λ y. x ≢ y) (range_with_len first n)
range_apart x first zero less = tt
range_apart x first (suc n) less = ((λ same. omega (arith, less, same)), range_apart x (first + 1) n (omega (arith, less)))

range_differs : (first n : ℕ) → Differ (range_with_len first n)
range_differs first zero = tt
range_differs first (suc n) = (range_apart first (first + 1) n (omega arith), range_differs (first + 1) n)

-- the numbers below a count by level, then by number
pub record IsSortedBy (level : ℕ → ℕ) (count : ℕ) (order : List ℕ) : Type 0 where
  pub each_once : IsPermutation (range_with_len 0 count) order
  pub ascending : AllPairs (ComesBefore level) order

pub sorted_by : (level : ℕ → ℕ) (count : ℕ) → (order : List ℕ) × IsSortedBy level count order
sorted_by level count = (
  sort_by (before level) (range_with_len 0 count),
  record {
    each_once = sort_moves (before level) (range_with_len 0 count);
    ascending = ascend_pairs (ComesBefore level) (sort_by (before level) (range_with_len 0 count)) (sort_ascends level (range_with_len 0 count) (range_differs 0 count));
  },
)

-- what stands in one list, and in front of it no more, stands behind the front of the other
in_tail : {X : Type 0} (R : X → X → Type 0) → ((x y : X) → R x y → R y x → ⊥) → (u v : X) (us vs : List X) → u ≡ v → AllByRecursion (R u) us → ((z : X) → Contains (u ∷ us) z → Contains (v ∷ vs) z) → (z : X) → Contains us z → Contains vs z
in_tail R never u v us vs e all all_in z c = by (either v vs z (all_in z (there u us z c)))
  where
    by : (v ≡ z) ⊎ Contains vs z → Contains vs z
    by (inl f) = let self : R u u = subst (R u) (sym (e ∙ f)) (of_all (R u) us z all c) in absurd (never u u self self)
    by (inr more) = more

same_front : {X : Type 0} (R : X → X → Type 0) → ((x y : X) → R x y → R y x → ⊥) → (x y : X) (xs ys : List X) → AllByRecursion (R x) xs → AllByRecursion (R y) ys → Contains (y ∷ ys) x → Contains (x ∷ xs) y → x ≡ y
same_front R never x y xs ys a b to from = first (either y ys x to) (either x xs y from)
  where
    first : (y ≡ x) ⊎ Contains ys x → (x ≡ y) ⊎ Contains xs y → x ≡ y
    first (inl e) other = sym e
    first (inr more) (inl e) = e
    first (inr more) (inr less) = absurd (never x y (of_all (R x) xs y a less) (of_all (R y) ys x b more))

-- lists that ascend and have the same items are one
pub same_ascending :
    {X : Type 0} (R : X → X → Type 0) → ((x y : X) → R x y → R y x → ⊥) → (xs ys : List X) → Ascends R xs → Ascends R ys → ((z : X) → Contains xs z → Contains ys z) → ((z : X) → Contains ys z → Contains xs z) → xs ≡ ys
same_ascending R never [] [] a b to from = refl
same_ascending R never [] (y ∷ ys) a b to from = absurd (none_in y (from y (here y ys)))
same_ascending R never (x ∷ xs) [] a b to from = absurd (none_in x (to x (here x xs)))
same_ascending R never (x ∷ xs) (y ∷ ys) a b to from =
    let same : x ≡ y = same_front R never x y xs ys a.0 b.0 (to x (here x xs)) (from y (here y ys)) in
    let rest = same_ascending R never xs ys a.1 b.1 (in_tail R never x y xs ys same a.0 to) (in_tail R never y x ys xs (sym same) b.0 from) in
    λ i. same i ∷ rest i
