-- A line has one support.
use Rattle.std.proofs.Common.{◌≡◌, ◌⊎◌, inl, inr, ℕ, suc, ◌+◌, ◌<◌, List, [], ◌∷◌, refl, sym, subst, arith, Bool, Contains, slice_index}
use Rattle.std.proofs.lemmas.List.Kept.{AllPairs-from_increasing}
use Rattle.std.specs.List.Sorted.{IsStrictlyIncreasing}
use Rattle.bb_base.specs.Net.{Gate}
use Rattle.bb_base.proofs.Contained.{here, there, either, none_in}
use Rattle.bb_terms.specs.Paths.{Start}
use Rattle.bb_terms.specs.Support.{AreLeaves}

head_below : (x : ℕ) (xs : List ℕ) (n : ℕ) → IsStrictlyIncreasing (x ∷ xs) → Contains xs n → x < n
head_below x xs n up h =
    let pairs = AllPairs-from_increasing (x ∷ xs) up 0 (suc h.0) n (omega arith) (let less = h.1 in omega (arith, less)) in
    subst (λ m. x < m) h.2 pairs

rest_up : (x : ℕ) (xs : List ℕ) → IsStrictlyIncreasing (x ∷ xs) → IsStrictlyIncreasing xs
rest_up x xs up k less =
    let e : suc k + 1 ≡ suc (k + 1) = omega arith in
    subst (λ j. slice_index xs k < slice_index (x ∷ xs) j) e (up (suc k) (omega (arith, less)))

-- of two ascending lists with the same numbers the first heads are equal
heads : (x y : ℕ) (xs ys : List ℕ) → IsStrictlyIncreasing (x ∷ xs) → IsStrictlyIncreasing (y ∷ ys) → Contains (y ∷ ys) x → Contains (x ∷ xs) y → x ≡ y
heads x y xs ys up other hx hy = by (either y ys x hx) (either x xs y hy)
  where
    by : (y ≡ x) ⊎ Contains ys x → (x ≡ y) ⊎ Contains xs y → x ≡ y
    by (inl e) k = sym e
    by (inr a) (inl e) = e
    by (inr a) (inr b) = let less = head_below y ys x other a in let more = head_below x xs y up b in absurd (omega (arith, less, more))

-- what stands behind an equal head
behind : (x y : ℕ) (xs ys : List ℕ) → x ≡ y → IsStrictlyIncreasing (x ∷ xs) → ((n : ℕ) → Contains (x ∷ xs) n → Contains (y ∷ ys) n) → (n : ℕ) → Contains xs n → Contains ys n
behind x y xs ys same up forth n h = by (either y ys n (forth n (there x xs n h)))
  where
    by : (y ≡ n) ⊎ Contains ys n → Contains ys n
    by (inl e) = let less = head_below x xs n up h in absurd (omega (arith, less, same, e))
    by (inr more) = more

pub ascending_same : (xs ys : List ℕ) → IsStrictlyIncreasing xs → IsStrictlyIncreasing ys → ((n : ℕ) → Contains xs n → Contains ys n) → ((n : ℕ) → Contains ys n → Contains xs n) → xs ≡ ys
ascending_same [] [] up other forth back = refl
ascending_same [] (y ∷ ys) up other forth back = absurd (none_in y (back y (here y ys)))
ascending_same (x ∷ xs) [] up other forth back = absurd (none_in x (forth x (here x xs)))
ascending_same (x ∷ xs) (y ∷ ys) up other forth back =
    let same = heads x y xs ys up other (forth x (here x xs)) (back y (here y ys)) in
    let rest = ascending_same xs ys (rest_up x xs up) (rest_up y ys other) (behind x y xs ys same up forth) (behind y x ys xs (sym same) other back) in
    λ i. same i ∷ rest i

pub one_support : (gates : List (Gate ℕ)) (stop : ℕ → Bool) (start : Start ℕ) (xs ys : List ℕ) → AreLeaves gates stop start xs → AreLeaves gates stop start ys → xs ≡ ys
one_support gates stop start xs ys hx hy =
    ascending_same xs ys hx.ascending hy.ascending (λ n h. (hy.each n).1 ((hx.each n).0 h)) (λ n h. (hx.each n).1 ((hy.each n).0 h))
