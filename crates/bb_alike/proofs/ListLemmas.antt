-- Lists item by item, and lists in which nothing stands twice.
use Rattle.std.proofs.Common.{arith, ◌≡◌, ◌≢◌, ◌↔◌, ◌⊎◌, inl, inr, ℕ, zero, suc, ◌+◌, ◌<◌, ◌≤◌, nat_lt, Bool, true, false, IsTrue, List, [], ◌∷◌, ◌++◌, length, map, take, Option, None, Some, option_map, slice_get, slice_index, get_or, refl, sym, ap, subst, ◌∙◌, Contains, below_more, length-append}
use Rattle.std.proofs.lemmas.Bool.Decides.{nat_tests}
use Rattle.std.proofs.lemmas.List.{take_more}
use Rattle.std.proofs.Math.Seq.{length-take-le}
use Rattle.bb_base.specs.Places.{EachAt}
use Rattle.std.proofs.lemmas.Option.{slice_get-map, slice_get_within, slice_get-get_or, get_or_from_slice_get}
use Rattle.bb_base.proofs.Contained.{here, there, either, none_in, of_all, contains_map, place_of, contains_at}
use Rattle.bb_base.proofs.Lists.{all_front, get_map, get_front, get_back, map_join, length_map}
use Rattle.bb_base.proofs.Distinct.{Distinct}

-- lists that agree at each place are one
pub same_items : {X : Type 0} (xs ys : List X) → length xs ≡ length ys → ((i : ℕ) → i < length ys → slice_get xs i ≡ slice_get ys i) → xs ≡ ys
same_items [] [] long h = refl
same_items [] (y ∷ ys) long h = absurd (omega (arith, long))
same_items (x ∷ xs) [] long h = absurd (omega (arith, long))
same_items (x ∷ xs) (y ∷ ys) long h =
    let first : Some x ≡ Some y = h zero (omega arith) in
    let one : x ≡ y = cc first in
    let rest = same_items xs ys (omega (arith, long)) (λ i less. h (suc i) (omega (arith, less))) in
    λ i. one i ∷ rest i

-- the images of items are what another list has, up to a place
abbrev pub AgreeTo : {X Y : Type 0} → (X → Y) → List X → List Y → ℕ → Type 0
AgreeTo f xs ys n = (i : ℕ) → i < n → slice_get (map f xs) i ≡ slice_get ys i

pub image_at : {X Y : Type 0} (f : X → Y) (xs : List X) (i : ℕ) (x : X) → slice_get xs i ≡ Some x → slice_get (map f xs) i ≡ Some (f x)
image_at f xs i x at = slice_get-map f xs i ∙ ap (option_map f) at

pub agree_more : {X Y : Type 0} (f : X → Y) (xs : List X) (ys : List Y) (n : ℕ) (x : X) (y : Y) → AgreeTo f xs ys n → slice_get xs n ≡ Some x → slice_get ys n ≡ Some y → f x ≡ y → AgreeTo f xs ys (n + 1)
agree_more f xs ys n x y h at there same = below_more (λ i. slice_get (map f xs) i ≡ slice_get ys i) n h (image_at f xs n x at ∙ (ap Some same ∙ sym there))

pub agree_all : {X Y : Type 0} (f : X → Y) (xs : List X) (ys : List Y) (n : ℕ) → AgreeTo f xs ys n → length ys ≤ n → length xs ≡ length ys → map f xs ≡ ys
agree_all f xs ys n h past long = same_items (map f xs) ys (length_map f xs ∙ long) (λ i less. h i (omega (arith, less, past)))

-- items whose images aren't what another list has
pub differs : {X Y : Type 0} (f : X → Y) (xs : List X) (ys : List Y) (i : ℕ) (x : X) (y : Y) → slice_get xs i ≡ Some x → slice_get ys i ≡ Some y → (f x ≡ y → ⊥) → map f xs ≡ ys → ⊥
differs f xs ys i x y at there apart same =
    let both : Some (f x) ≡ Some y = sym (image_at f xs i x at) ∙ ap (λ ks. slice_get ks i) same ∙ there in
    let one : f x ≡ y = cc both in
    apart one

-- the number at a place of a list of images
pub number_at : {X : Type 0} (f : X → ℕ) (xs : List X) (i : ℕ) (x : X) → slice_get xs i ≡ Some x → slice_index (map f xs) i ≡ f x
number_at f xs i x at = get_or_from_slice_get (map f xs) i (f x) 0 (image_at f xs i x at)

-- what stands in one of two joined lists stands in both together, and the other way round
pub to_front : {X : Type 0} (xs ys : List X) (x : X) → Contains xs x → Contains (xs ++ ys) x
to_front [] ys x h = absurd (none_in x h)
to_front {X} (z ∷ xs) ys x h = by (either z xs x h) (λ more. to_front xs ys x more)
  where
    by : (z ≡ x) ⊎ Contains xs x → (Contains xs x → Contains (xs ++ ys) x) → Contains (z ∷ (xs ++ ys)) x
    by (inl e) rest = subst (Contains (z ∷ (xs ++ ys))) e (here z (xs ++ ys))
    by (inr more) rest = there z (xs ++ ys) x (rest more)

pub to_back : {X : Type 0} (xs ys : List X) (x : X) → Contains ys x → Contains (xs ++ ys) x
to_back [] ys x h = h
to_back (z ∷ xs) ys x h = there z (xs ++ ys) x (to_back xs ys x h)

pub from_joined : {X : Type 0} (xs ys : List X) (x : X) → Contains (xs ++ ys) x → Contains xs x ⊎ Contains ys x
from_joined [] ys x h = inr h
from_joined {X} (z ∷ xs) ys x h = by (either z (xs ++ ys) x h) (λ more. from_joined xs ys x more)
  where
    later : Contains xs x ⊎ Contains ys x → Contains (z ∷ xs) x ⊎ Contains ys x
    later (inl more) = inl (there z xs x more)
    later (inr more) = inr more

    by : (z ≡ x) ⊎ Contains (xs ++ ys) x → (Contains (xs ++ ys) x → Contains xs x ⊎ Contains ys x) → Contains (z ∷ xs) x ⊎ Contains ys x
    by (inl e) rest = inl (subst (Contains (z ∷ xs)) e (here z xs))
    by (inr more) rest = later (rest more)

-- an image is one of an item
pub from_image : {X Y : Type 0} (f : X → Y) (xs : List X) (y : Y) → Contains (map f xs) y → (x : X) × Contains xs x × (f x ≡ y)
from_image f xs y h =
    let there = place_of (map f xs) y h in
    let item = get_map f xs there.0 y there.1 in
    (item.0, contains_at xs there.0 item.0 item.1, item.2)

-- where nothing stands twice, nothing stands in both of two joined lists
pub apart_joined : {X : Type 0} (xs ys : List X) (x : X) → Distinct (xs ++ ys) → Contains xs x → Contains ys x → ⊥
apart_joined [] ys x d a b = none_in x a
apart_joined {X} (z ∷ xs) ys x d a b = by (either z xs x a) (λ more. apart_joined xs ys x d.1 more b)
  where
    by : (z ≡ x) ⊎ Contains xs x → (Contains xs x → ⊥) → ⊥
    by (inl e) rest = of_all (λ y. y ≢ z) (xs ++ ys) x d.0 (to_back xs ys x b) (sym e)
    by (inr more) rest = rest more

pub distinct_front : {X : Type 0} (xs ys : List X) → Distinct (xs ++ ys) → Distinct xs
distinct_front [] ys d = tt
distinct_front (x ∷ xs) ys d = (all_front (λ y. y ≢ x) xs ys d.0, distinct_front xs ys d.1)

pub distinct_back : {X : Type 0} (xs ys : List X) → Distinct (xs ++ ys) → Distinct ys
distinct_back [] ys d = d
distinct_back (x ∷ xs) ys d = distinct_back xs ys d.1

-- and where no image does, items with one image are one
pub one_image : {X Y : Type 0} (f : X → Y) (xs : List X) (x y : X) → Distinct (map f xs) → Contains xs x → Contains xs y → f x ≡ f y → x ≡ y
one_image f [] x y d a b e = absurd (none_in x a)
one_image {X} {Y} f (z ∷ xs) x y d a b e = by (either z xs x a) (either z xs y b) (λ k l. one_image f xs x y d.1 k l e)
  where
    by : (z ≡ x) ⊎ Contains xs x → (z ≡ y) ⊎ Contains xs y → (Contains xs x → Contains xs y → x ≡ y) → x ≡ y
    by (inl p) (inl q) rest = sym p ∙ q
    by (inl p) (inr q) rest = absurd (of_all (λ w. w ≢ f z) (map f xs) (f y) d.0 (contains_map f xs y q) (sym e ∙ ap f (sym p)))
    by (inr p) (inl q) rest = absurd (of_all (λ w. w ≢ f z) (map f xs) (f x) d.0 (contains_map f xs x p) (e ∙ ap f (sym q)))
    by (inr p) (inr q) rest = rest p q

-- the item that is read at a place stands there
pub item_at : {X : Type 0} (xs : List X) (n : ℕ) (x : X) → n < length xs → x ≡ get_or xs n x → slice_get xs n ≡ Some x
item_at xs n x less is = slice_get-get_or xs n x less ∙ ap Some (sym is)

-- one more item, mapped
pub map_more : {X Y : Type 0} (f : X → Y) (xs : List X) (n : ℕ) (x : X) (old new : List Y) → slice_get xs n ≡ Some x → old ≡ map f (take n xs) → new ≡ old ++ f x ∷ [] → new ≡ map f (take (n + 1) xs)
map_more f xs n x old new at before added =
    let less = slice_get_within xs n x at in
    let more : take (n + 1) xs ≡ take n xs ++ x ∷ [] = take_more xs n x less ∙ ap (λ y. take n xs ++ y ∷ []) (get_or_from_slice_get xs n x x at) in
    added ∙ ap (λ ys. ys ++ f x ∷ []) before ∙ sym (map_join f (take n xs) (x ∷ [])) ∙ ap (map f) (sym more)

-- one more item of which a fact holds
pub each_push : {X : Type 0} (P : ℕ → X → Type 0) (xs : List X) (x : X) → EachAt xs P → P (length xs) x → EachAt (xs ++ x ∷ []) P
each_push {X} P xs x each here i y at = by (nat_lt i (length xs)) refl
  where
    by : (b : Bool) → nat_lt i (length xs) ≡ b → P i y
    by true e = let less : i < length xs = grind (arith, nat_tests, e) in each i y (sym (get_front xs (x ∷ []) i less) ∙ at)
    by false e =
        let past : length xs ≤ i = grind (arith, nat_tests, e) in
        let within = slice_get_within (xs ++ x ∷ []) i y at in
        let last : length xs + 0 ≡ i = omega (arith, past, within, length-append xs (x ∷ [])) in
        let both : Some x ≡ Some y = sym (get_back xs (x ∷ []) 0) ∙ ap (slice_get (xs ++ x ∷ [])) last ∙ at in
        let same : x ≡ y = cc both in
        let place : length xs ≡ i = omega (arith, last) in
        subst (λ k. P k y) place (subst (P (length xs)) same here)

-- no test comes out both ways
pub not_both : (b : Bool) → b ≡ true → b ≡ false → ⊥
not_both b t f = let e : true ≡ false = sym t ∙ f in absurd (cc e)

-- a test that says another fact, where both say the same
pub says : (b : Bool) (P Q : Type 0) → IsTrue b ↔ P → (Q → P) × (P → Q) → IsTrue b ↔ Q
says b P Q h k = (λ t. k.1 (h.0 t), λ q. h.1 (k.0 q))

-- an item of a front
pub get_taken : {X : Type 0} (xs : List X) (n i : ℕ) → i < n → slice_get (take n xs) i ≡ slice_get xs i
get_taken xs zero i less = absurd (omega (arith, less))
get_taken [] (suc n) i less = refl
get_taken (x ∷ xs) (suc n) zero less = refl
get_taken (x ∷ xs) (suc n) (suc i) less = get_taken xs n i (omega (arith, less))

-- what holds up to each place of a front
pub fronts_same : {X : Type 0} (xs ys : List X) (n : ℕ) → n ≤ length xs → n ≤ length ys → ((i : ℕ) → i < n → slice_get xs i ≡ slice_get ys i) → take n xs ≡ take n ys
fronts_same xs ys n low high h =
    same_items (take n xs) (take n ys) (length-take-le n xs low ∙ sym (length-take-le n ys high))
    (λ i less. let small : i < n = omega (arith, less, length-take-le n ys high) in get_taken xs n i small ∙ h i small ∙ sym (get_taken ys n i small))

-- what is no value is none
pub none_of : {X : Type 0} (o : Option X) → ((x : X) → o ≡ Some x → ⊥) → o ≡ None
none_of None h = refl
none_of (Some x) h = absurd (h x refl)
