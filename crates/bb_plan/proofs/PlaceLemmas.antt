-- The front of a list up to a place, and the parts of a list of lists.
use Rattle.std.proofs.Common.{arith, ◌≡◌, ◌⊎◌, inl, inr, ℕ, zero, suc, ◌+◌, ◌≤◌, List, [], ◌∷◌, ◌++◌, length, take, refl, sym, ap, subst, ◌∙◌, slice_get, Option, Some, None, Contains, length-append}
use Rattle.std.specs.List.{flat_map}
use Rattle.std.proofs.lemmas.List.{take_more}
use Rattle.std.proofs.lemmas.List.Elements.{Contains-append_left, Contains-append_right, Contains-append_cases}
use Rattle.std.proofs.lemmas.Option.{slice_get_within, get_or_from_slice_get}
use Rattle.bb_base.proofs.Contained.{here, there, either, none_in}

pub take_long : {X : Type 0} (k : ℕ) (xs : List X) → k ≤ length xs → length (take k xs) ≡ k
take_long zero xs h = refl
take_long (suc k) [] h = absurd (omega (arith, h))
take_long (suc k) (x ∷ xs) h = ap suc (take_long k xs (omega (arith, h)))

-- one more item at the end of the front
pub take_next : {X : Type 0} (xs : List X) (n : ℕ) (x : X) → slice_get xs n ≡ Some x → take (n + 1) xs ≡ take n xs ++ x ∷ []
take_next xs n x at = take_more xs n x (slice_get_within xs n x at) ∙ ap (λ y. take n xs ++ y ∷ []) (get_or_from_slice_get xs n x x at)

-- what is no value is none
pub none_of : {X : Type 0} (o : Option X) → ((x : X) → o ≡ Some x → ⊥) → o ≡ None
none_of None h = refl
none_of (Some x) h = absurd (h x refl)

-- what parts of a list have, the list of all parts has, and the other way round
pub in_parts : {X Y : Type 0} (f : X → List Y) (xs : List X) (x : X) (y : Y) → Contains xs x → Contains (f x) y → Contains (flat_map f xs) y
in_parts f [] x y c h = absurd (none_in x c)
in_parts {X} {Y} f (z ∷ xs) x y c h = by (either z xs x c) (λ more. in_parts f xs x y more h)
  where
    by : (z ≡ x) ⊎ Contains xs x → (Contains xs x → Contains (flat_map f xs) y) → Contains (f z ++ flat_map f xs) y
    by (inl e) rest = Contains-append_left (f z) (flat_map f xs) y (subst (λ w. Contains (f w) y) (sym e) h)
    by (inr more) rest = Contains-append_right (f z) (flat_map f xs) y (rest more)

pub of_parts : {X Y : Type 0} (f : X → List Y) (xs : List X) (y : Y) → Contains (flat_map f xs) y → (x : X) × Contains xs x × Contains (f x) y
of_parts f [] y c = absurd (none_in y c)
of_parts {X} {Y} f (z ∷ xs) y c = by (Contains-append_cases (f z) (flat_map f xs) y c) (of_parts f xs y)
  where
    by : Contains (f z) y ⊎ Contains (flat_map f xs) y → (Contains (flat_map f xs) y → (x : X) × Contains xs x × Contains (f x) y) → (x : X) × Contains (z ∷ xs) x × Contains (f x) y
    by (inl h) rest = (z, here z xs, h)
    by (inr more) rest = let r = rest more in (r.0, there z xs r.0 r.1, r.2)

-- parts that are not empty are no more than what they have together
pub few_parts : {X Y : Type 0} (f : X → List Y) (xs : List X) → ((i : ℕ) (x : X) → slice_get xs i ≡ Some x → 1 ≤ length (f x)) → length xs ≤ length (flat_map f xs)
few_parts f [] h = omega arith
few_parts f (x ∷ xs) h =
    let first = h 0 x refl in
    let rest = few_parts f xs (λ i y at. h (suc i) y at) in
    let long = length-append (f x) (flat_map f xs) in
    omega (arith, first, rest, long)
