-- Facts on tests, and on lists that tests sift.
use Rattle.std.proofs.Common.{◌≡◌, ℕ, suc, zero, List, [], ◌∷◌, map, cond, Option, Some, None, Bool, true, false, ◌||◌, ◌&&◌, slice_get, refl, ap, subst}
use Rattle.std.specs.Prelude.{filter, find, flat_map}
use Rattle.std.specs.List.{AllByRecursion}
use Rattle.std.specs.Option.{option_or}
use Rattle.std.proofs.lemmas.Option.{same_Some}
use Rattle.bb_base.proofs.Lists.{all_join}

pub or_left : (a b : Bool) → a ≡ true → (a || b) ≡ true
or_left true b h = refl
or_left false b h = cc

pub or_right : (a b : Bool) → b ≡ true → (a || b) ≡ true
or_right true b h = refl
or_right false b h = h

pub or_parts : {A : Type 0} (a b : Bool) → (a || b) ≡ true → (a ≡ true → A) → (b ≡ true → A) → A
or_parts true b h f g = f refl
or_parts false b h f g = g h

pub and_false : (a b : Bool) → (a ≡ true → b ≡ false) → (a && b) ≡ false
and_false true b h = h refl
and_false false b h = refl

pub or_none : {A : Type 0} (a b : Option A) → a ≡ None → b ≡ None → option_or a b ≡ None
or_none None b h k = k
or_none (Some x) b h k = cc

-- what holds of all items holds of the one at a place, and the other way round
pub item_at : {X : Type 0} (P : X → Type 0) (xs : List X) (i : ℕ) (x : X) → AllByRecursion P xs → slice_get xs i ≡ Some x → P x
item_at P [] i x h at = cc
item_at P (y ∷ ys) zero x h at = subst P (same_Some y x at) h.0
item_at P (y ∷ ys) (suc i) x h at = item_at P ys i x h.1 at

pub all_items : {X : Type 0} (P : X → Type 0) (xs : List X) → ((i : ℕ) (x : X) → slice_get xs i ≡ Some x → P x) → AllByRecursion P xs
all_items P [] h = tt
all_items P (x ∷ xs) h = (h 0 x refl, all_items P xs (λ i y at. h (suc i) y at))

pub weaken : {X : Type 0} (P Q : X → Type 0) → ((x : X) → P x → Q x) → (xs : List X) → AllByRecursion P xs → AllByRecursion Q xs
weaken P Q f [] h = tt
weaken P Q f (x ∷ xs) h = (f x h.0, weaken P Q f xs h.1)

pub flat_all : {X Y : Type 0} (P : Y → Type 0) (f : X → List Y) (xs : List X) → AllByRecursion (λ x. AllByRecursion P (f x)) xs → AllByRecursion P (flat_map f xs)
flat_all P f [] h = tt
flat_all P f (x ∷ xs) h = all_join P (f x) (flat_map f xs) h.0 (flat_all P f xs h.1)

pub fixed : {X : Type 0} (f : X → X) (xs : List X) → AllByRecursion (λ x. f x ≡ x) xs → map f xs ≡ xs
fixed f [] h = refl
fixed f (x ∷ xs) h = λ i. h.0 i ∷ fixed f xs h.1 i

-- none of the items that pass is found
pub found_none : {X : Type 0} (p test : X → Bool) (xs : List X) → ((x : X) → p x ≡ true → test x ≡ false) → find test (filter p xs) ≡ None
found_none p test [] h = refl
found_none p test (x ∷ xs) h = go (p x) refl (found_none p test xs h)
  where
    go : (b : Bool) → p x ≡ b → find test (filter p xs) ≡ None → find test (filter p (x ∷ xs)) ≡ None
    go true e rest =
        let fails : test x ≡ false = h x e in
        rw (e, fails) rest
    go false e rest = rw e rest

pub none_found : {X : Type 0} (test : X → Bool) (xs : List X) → AllByRecursion (λ x. test x ≡ false) xs → find test xs ≡ None
none_found test [] h = refl
none_found test (x ∷ xs) h =
    let e : test x ≡ false = h.0 in
    rw e (none_found test xs h.1)

pub found_has : {X : Type 0} (P : X → Type 0) (test : X → Bool) (xs : List X) (x : X) → AllByRecursion P xs → find test xs ≡ Some x → P x
found_has P test [] x all e = cc
found_has P test (y ∷ ys) x all e = go (test y) refl e (found_has P test ys x all.1)
  where
    go : (b : Bool) → test y ≡ b → cond b (Some y) (find test ys) ≡ Some x → (find test ys ≡ Some x → P x) → P x
    go true t e rest = subst P (same_Some y x e) all.0
    go false t e rest = rest e

pub filter_map : {X Y : Type 0} (test : Y → Bool) (f : X → Y) (xs : List X) → filter test (map f xs) ≡ map f (filter (λ x. test (f x)) xs)
filter_map test f [] = refl
filter_map test f (x ∷ xs) = go (test (f x)) refl (filter_map test f xs)
  where
    go : (b : Bool) → test (f x) ≡ b → filter test (map f xs) ≡ map f (filter (λ x. test (f x)) xs) → filter test (map f (x ∷ xs)) ≡ map f (filter (λ x. test (f x)) (x ∷ xs))
    go true e rest = rw e (ap (λ z. f x ∷ z) rest)
    go false e rest = rw e rest

pub filter_all : {X : Type 0} (test : X → Bool) (xs : List X) → AllByRecursion (λ x. test x ≡ true) xs → filter test xs ≡ xs
filter_all test [] h = refl
filter_all test (x ∷ xs) h =
    let e : test x ≡ true = h.0 in
    rw e (ap (λ z. x ∷ z) (filter_all test xs h.1))

pub filter_same : {X : Type 0} (p q : X → Bool) (P : X → Type 0) → ((x : X) → P x → p x ≡ q x) → (xs : List X) → AllByRecursion P xs → filter p xs ≡ filter q xs
filter_same p q P f [] h = refl
filter_same p q P f (x ∷ xs) h = λ i. cond (f x h.0 i) (x ∷ filter_same p q P f xs h.1 i) (filter_same p q P f xs h.1 i)

pub all_true : {X : Type 0} (test : X → Bool) → ((x : X) → test x ≡ true) → (xs : List X) → AllByRecursion (λ x. test x ≡ true) xs
all_true test f [] = tt
all_true test f (x ∷ xs) = (f x, all_true test f xs)

pub filter_keeps : {X : Type 0} (P : X → Type 0) (p : X → Bool) (xs : List X) → ((x : X) → p x ≡ true → P x) → AllByRecursion P (filter p xs)
filter_keeps P p [] h = tt
filter_keeps P p (x ∷ xs) h = go (p x) refl (filter_keeps P p xs h)
  where
    go : (b : Bool) → p x ≡ b → AllByRecursion P (filter p xs) → AllByRecursion P (filter p (x ∷ xs))
    go true e rest = rw e (h x e, rest)
    go false e rest = rw e rest

pub filter_all_of : {X : Type 0} (P : X → Type 0) (p : X → Bool) (xs : List X) → AllByRecursion P xs → AllByRecursion P (filter p xs)
filter_all_of P p [] h = tt
filter_all_of P p (x ∷ xs) h = go (p x) refl (filter_all_of P p xs h.1)
  where
    go : (b : Bool) → p x ≡ b → AllByRecursion P (filter p xs) → AllByRecursion P (filter p (x ∷ xs))
    go true e rest = rw e (h.0, rest)
    go false e rest = rw e rest

pub both_keep : {X : Type 0} (P : X → Type 0) (p q : X → Bool) (xs : List X) → ((x : X) → q x ≡ true → p x ≡ true → P x) → AllByRecursion P (filter p (filter q xs))
both_keep {X = X} P p q xs h = meet (filter p (filter q xs)) (filter_all_of (λ x. q x ≡ true) p (filter q xs) (filter_keeps (λ x. q x ≡ true) q xs (λ x e. e))) (filter_keeps (λ x. p x ≡ true) p (filter q xs) (λ x e. e))
  where
    meet : (ys : List X) → AllByRecursion (λ x. q x ≡ true) ys → AllByRecursion (λ x. p x ≡ true) ys → AllByRecursion P ys
    meet [] k l = tt
    meet (y ∷ ys) k l = (h y k.0 l.0, meet ys k.1 l.1)
