-- What holds of all items of lists.
use Rattle.std.proofs.Common.{arith, ◌≡◌, ℕ, zero, suc, ◌+◌, ◌<◌, ◌≤◌, Bool, true, false, cond, List, [], ◌∷◌, map, take, drop, reverse, sym, subst, slice_get, Some}
use Rattle.std.proofs.lemmas.Grind.{reverse_onto}
use Rattle.std.specs.Prelude.{flat_map, filter}
use Rattle.std.specs.List.{AllByRecursion, range_with_len}
use Rattle.bb_base.proofs.Lists.{all_join}

-- what all items of a list have, one that stands in it has
pub at_item : {X : Type 0} (P : X → Type 0) (xs : List X) (i : ℕ) (x : X) → AllByRecursion P xs → slice_get xs i ≡ Some x → P x
at_item P [] i x all at = absurd (cc at)
at_item P (y ∷ xs) zero x all at = let same : y ≡ x = cc at in subst P same all.0
at_item P (y ∷ xs) (suc i) x all at = at_item P xs i x all.1 at

-- what holds of all images' items holds of those of the images joined
pub all_flat : {X Y : Type 0} (P : Y → Type 0) (Q : X → Type 0) (f : X → List Y) → ((x : X) → Q x → AllByRecursion P (f x)) → (xs : List X) → AllByRecursion Q xs → AllByRecursion P (flat_map f xs)
all_flat P Q f each [] all = tt
all_flat P Q f each (x ∷ xs) all = all_join P (f x) (flat_map f xs) (each x all.0) (all_flat P Q f each xs all.1)

-- what holds of all items holds of the first ones, of those that pass a test, of the last ones, and in reverse
pub all_take : {X : Type 0} (P : X → Type 0) (n : ℕ) (xs : List X) → AllByRecursion P xs → AllByRecursion P (take n xs)
all_take P zero xs all = tt
all_take P (suc n) [] all = tt
all_take P (suc n) (x ∷ xs) all = (all.0, all_take P n xs all.1)

pub all_filter : {X : Type 0} (P : X → Type 0) (test : X → Bool) (xs : List X) → AllByRecursion P xs → AllByRecursion P (filter test xs)
all_filter P test [] all = tt
all_filter {X} P test (x ∷ xs) all = go (test x) (all_filter P test xs all.1)
  where
    go : (b : Bool) → AllByRecursion P (filter test xs) → AllByRecursion P (cond b (x ∷ filter test xs) (filter test xs))
    go true rest = (all.0, rest)
    go false rest = rest

pub all_drop : {X : Type 0} (P : X → Type 0) (n : ℕ) (xs : List X) → AllByRecursion P xs → AllByRecursion P (drop n xs)
all_drop P zero xs all = all
all_drop P (suc n) [] all = tt
all_drop P (suc n) (x ∷ xs) all = all_drop P n xs all.1

pub all_reverse : {X : Type 0} (P : X → Type 0) (xs : List X) → AllByRecursion P xs → AllByRecursion P (reverse xs)
all_reverse P [] all = tt
all_reverse P (x ∷ xs) all = subst (AllByRecursion P) (sym (reverse_onto xs x [])) (all_join P (reverse xs) (x ∷ []) (all_reverse P xs all.1) (all.0, tt))

-- what holds of the images of all numbers below an end holds along a range below it
pub all_range : {X : Type 0} (P : X → Type 0) (f : ℕ → X) (end from n : ℕ) → ((k : ℕ) → k < end → P (f k)) → from + n ≤ end → AllByRecursion P (map f (range_with_len from n))
all_range P f end from zero each small = tt
all_range P f end from (suc n) each small = (each from (omega (arith, small)), all_range P f end (from + 1) n each (omega (arith, small)))
