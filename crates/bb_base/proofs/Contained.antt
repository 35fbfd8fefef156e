-- Items of a list, from its head on: what stands there, and facts of all items.
use Rattle.std.proofs.Common.{◌≡◌, ◌⊎◌, ℕ, zero, suc, ◌<◌, List, [], ◌∷◌, length, map, refl, ap, subst, arith, inl, inr, Contains, slice_index_or, slice_get, Some}
use Rattle.std.specs.List.{AllByRecursion}

pub here : {X : Type 0} (x : X) (xs : List X) → Contains (x ∷ xs) x
here x xs = (0, omega arith, refl)

pub there : {X : Type 0} (y : X) (xs : List X) (x : X) → Contains xs x → Contains (y ∷ xs) x
there y xs x h = (suc h.0, omega (arith, h.1), h.2)

pub either : {X : Type 0} (y : X) (xs : List X) (x : X) → Contains (y ∷ xs) x → (y ≡ x) ⊎ Contains xs x
either y xs x h = by h.0 h.1 h.2
  where
    by : (k : ℕ) → k < suc (length xs) → slice_index_or (y ∷ xs) k x ≡ x → (y ≡ x) ⊎ Contains xs x
    by zero less e = inl e
    by (suc k) less e = inr (k, omega (arith, less), e)

pub none_in : {X : Type 0} (x : X) → Contains [] x → ⊥
none_in x h = omega (arith, h.1)

-- what holds of all items holds of each, and the other way round
pub of_all : {X : Type 0} (P : X → Type 0) (xs : List X) (x : X) → AllByRecursion P xs → Contains xs x → P x
of_all P [] x all h = absurd (none_in x h)
of_all {X} P (y ∷ xs) x all h = by (either y xs x h) (λ more. of_all P xs x all.1 more)
  where
    by : (y ≡ x) ⊎ Contains xs x → (Contains xs x → P x) → P x
    by (inl e) rest = subst P e all.0
    by (inr more) rest = rest more

pub to_all : {X : Type 0} (P : X → Type 0) (xs : List X) → ((x : X) → Contains xs x → P x) → AllByRecursion P xs
to_all P [] h = tt
to_all P (x ∷ xs) h = (h x (here x xs), to_all P xs (λ y c. h y (there x xs y c)))

-- the same by the places of items
pub at_place : {X : Type 0} (P : X → Type 0) (xs : List X) (k : ℕ) (x : X) → AllByRecursion P xs → slice_get xs k ≡ Some x → P x
at_place P [] k x all e = absurd (cc e)
at_place P (y ∷ xs) zero x all e = let same : y ≡ x = cc e in subst P same all.0
at_place P (y ∷ xs) (suc k) x all e = at_place P xs k x all.1 e

pub by_place : {X : Type 0} (P : X → Type 0) (xs : List X) → ((k : ℕ) (x : X) → slice_get xs k ≡ Some x → P x) → AllByRecursion P xs
by_place P [] h = tt
by_place P (x ∷ xs) h = (h zero x refl, by_place P xs (λ k y e. h (suc k) y e))

-- two facts of all items
pub both_all : {X : Type 0} (P Q : X → Type 0) (xs : List X) → AllByRecursion P xs → AllByRecursion Q xs → AllByRecursion (λ x. P x × Q x) xs
both_all P Q [] a b = tt
both_all P Q (x ∷ xs) a b = ((a.0, b.0), both_all P Q xs a.1 b.1)

-- maps by functions that agree on each item, and the other way round
pub map_on : {X Y : Type 0} (f g : X → Y) (xs : List X) → ((x : X) → Contains xs x → f x ≡ g x) → map f xs ≡ map g xs
map_on f g [] h = refl
map_on f g (x ∷ xs) h = let rest = map_on f g xs (λ y c. h y (there x xs y c)) in λ i. h x (here x xs) i ∷ rest i

heads : {X : Type 0} (x y : X) (xs ys : List X) → x ∷ xs ≡ y ∷ ys → x ≡ y
heads x y xs ys e = cc e

tails : {X : Type 0} (x y : X) (xs ys : List X) → x ∷ xs ≡ y ∷ ys → xs ≡ ys
tails x y xs ys e = cc e

pub each_same : {X Y : Type 0} (f g : X → Y) (xs : List X) → map f xs ≡ map g xs → AllByRecursion (λ x. f x ≡ g x) xs
each_same f g [] e = tt
each_same f g (x ∷ xs) e = (heads (f x) (g x) (map f xs) (map g xs) e, each_same f g xs (tails (f x) (g x) (map f xs) (map g xs) e))

pub contains_map : {X Y : Type 0} (f : X → Y) (xs : List X) (x : X) → Contains xs x → Contains (map f xs) (f x)
contains_map f [] x h = absurd (none_in x h)
contains_map {X} {Y} f (y ∷ xs) x h = by (either y xs x h) (λ more. contains_map f xs x more)
  where
    by : (y ≡ x) ⊎ Contains xs x → (Contains xs x → Contains (map f xs) (f x)) → Contains (f y ∷ map f xs) (f x)
    by (inl e) rest = subst (λ z. Contains (f y ∷ map f xs) (f z)) e (here (f y) (map f xs))
    by (inr more) rest = there (f y) (map f xs) (f x) (rest more)

-- an item stands at some place
pub place_of : {X : Type 0} (xs : List X) (x : X) → Contains xs x → (k : ℕ) × (slice_get xs k ≡ Some x)
place_of [] x h = absurd (none_in x h)
place_of {X} (y ∷ xs) x h = by (either y xs x h) (λ more. place_of xs x more)
  where
    by : (y ≡ x) ⊎ Contains xs x → (Contains xs x → (k : ℕ) × (slice_get xs k ≡ Some x)) → (k : ℕ) × (slice_get (y ∷ xs) k ≡ Some x)
    by (inl e) rest = (0, ap Some e)
    by (inr more) rest = (suc (rest more).0, (rest more).1)

pub contains_at : {X : Type 0} (xs : List X) (k : ℕ) (x : X) → slice_get xs k ≡ Some x → Contains xs x
contains_at [] k x e = absurd (cc e)
contains_at (y ∷ xs) zero x e = let same : y ≡ x = cc e in subst (Contains (y ∷ xs)) same (here y xs)
contains_at (y ∷ xs) (suc k) x e = there y xs x (contains_at xs k x e)
