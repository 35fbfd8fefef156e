-- Items of lists: tests that some item passes, the front of a list, ranges, and lists one after another.
use Rattle.std.proofs.Common.{◌≡◌, ◌⊎◌, inl, inr, ℕ, zero, suc, ◌+◌, ◌<◌, ◌||◌, List, [], ◌∷◌, length, take, Bool, true, false, refl, ap, ◌∙◌, arith, slice_get, Some, Contains, length-append}
use Rattle.std.specs.List.{list_any, range_with_len, flat_map}
use Rattle.bb_base.proofs.Contained.{here, there, either, none_in}

-- some item passes a test
pub any_item : {X : Type 0} (p : X → Bool) (xs : List X) → list_any p xs ≡ true → (x : X) × Contains xs x × (p x ≡ true)
any_item p [] h = absurd (cc h)
any_item {X} p (x ∷ xs) h = by (p x) refl h (λ more. any_item p xs more)
  where
    by : (b : Bool) → p x ≡ b → (b || list_any p xs) ≡ true → (list_any p xs ≡ true → (y : X) × Contains xs y × (p y ≡ true)) → (y : X) × Contains (x ∷ xs) y × (p y ≡ true)
    by true e k rest = (x, here x xs, e)
    by false e k rest = let more = rest k in (more.0, there x xs more.0 more.1, more.2)

pub any_of : {X : Type 0} (p : X → Bool) (xs : List X) (x : X) → Contains xs x → p x ≡ true → list_any p xs ≡ true
any_of p [] x h e = absurd (none_in x h)
any_of {X} p (y ∷ xs) x h e = by (p y) refl (either y xs x h) (λ more. any_of p xs x more e)
  where
    by : (b : Bool) → p y ≡ b → (y ≡ x) ⊎ Contains xs x → (Contains xs x → list_any p xs ≡ true) → (b || list_any p xs) ≡ true
    by true f k rest = refl
    by false f (inl same) rest = let both : p y ≡ true = ap p same ∙ e in absurd (cc (f, both))
    by false f (inr more) rest = rest more

-- the front of a list
pub in_front_of : {X : Type 0} (n : ℕ) (xs : List X) (i : ℕ) (x : X) → slice_get (take n xs) i ≡ Some x → (i < n) × (slice_get xs i ≡ Some x)
in_front_of zero xs i x h = absurd (cc h)
in_front_of (suc n) [] i x h = absurd (cc h)
in_front_of (suc n) (y ∷ xs) zero x h = (omega arith, h)
in_front_of (suc n) (y ∷ xs) (suc i) x h = let rest = in_front_of n xs i x h in let less = rest.0 in (omega (arith, less), rest.1)

pub front_has : {X : Type 0} (n : ℕ) (xs : List X) (i : ℕ) (x : X) → i < n → slice_get xs i ≡ Some x → slice_get (take n xs) i ≡ Some x
front_has n [] i x less h = absurd (cc h)
front_has zero (y ∷ xs) i x less h = absurd (omega (arith, less))
front_has (suc n) (y ∷ xs) zero x less h = h
front_has (suc n) (y ∷ xs) (suc i) x less h = front_has n xs i x (omega (arith, less)) h

-- ranges
pub range_has : (from n i : ℕ) → i < n → slice_get (range_with_len from n) i ≡ Some (from + i)
range_has from zero i less = absurd (omega (arith, less))
range_has from (suc n) zero less = let e : from ≡ from + 0 = omega arith in ap Some e
range_has from (suc n) (suc i) less = let e : (from + 1) + i ≡ from + suc i = omega arith in range_has (from + 1) n i (omega (arith, less)) ∙ ap Some e

pub range_at : (from n i x : ℕ) → slice_get (range_with_len from n) i ≡ Some x → (i < n) × (x ≡ from + i)
range_at from zero i x h = absurd (cc h)
range_at from (suc n) zero x h = let same : from ≡ x = cc h in (omega arith, omega (arith, same))
range_at from (suc n) (suc i) x h =
    let rest = range_at (from + 1) n i x h in
    let less = rest.0 in
    let same = rest.1 in
    (omega (arith, less), omega (arith, same))

-- lists one after another, with one more
pub joined_more : (xss : List (List ℕ)) (n : ℕ) (xs : List ℕ) → slice_get xss n ≡ Some xs → length (flat_map (λ x. x) (take (suc n) xss)) ≡ length (flat_map (λ x. x) (take n xss)) + length xs
joined_more [] n xs h = absurd (cc h)
joined_more (ys ∷ xss) zero xs h =
    let same : ys ≡ xs = cc h in
    let long = length-append ys [] in
    let count : length ys ≡ length xs = ap length same in
    omega (arith, long, count)
joined_more (ys ∷ xss) (suc n) xs h =
    let rest = joined_more xss n xs h in
    let one = length-append ys (flat_map (λ x. x) (take (suc n) xss)) in
    let two = length-append ys (flat_map (λ x. x) (take n xss)) in
    omega (arith, rest, one, two)
