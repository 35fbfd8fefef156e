-- General facts on lists.
use Rattle.std.proofs.Common.{◌≡◌, ℕ, ◌+◌, ◌<◌, zero, suc, List, [], ◌∷◌, ◌++◌, length, map, take, drop, Some, slice_get, refl, ap, ◌∙◌, arith, length-drop, append-nil, All}
use Rattle.std.proofs.Math.Seq.{take-length}
use Rattle.std.proofs.lemmas.List.Elements.{All-from_recursion, recursion_from_All}
use Rattle.std.specs.List.{AllByRecursion, flat_map}

-- facts of all items of two joined lists, and of each of them
pub all_front : {X : Type 0} (P : X → Type 0) (xs ys : List X) → AllByRecursion P (xs ++ ys) → AllByRecursion P xs
all_front P [] ys h = tt
all_front P (x ∷ xs) ys h = (h.0, all_front P xs ys h.1)

pub all_back : {X : Type 0} (P : X → Type 0) (xs ys : List X) → AllByRecursion P (xs ++ ys) → AllByRecursion P ys
all_back P [] ys h = h
all_back P (x ∷ xs) ys h = all_back P xs ys h.1

pub all_join : {X : Type 0} (P : X → Type 0) (xs ys : List X) → AllByRecursion P xs → AllByRecursion P ys → AllByRecursion P (xs ++ ys)
all_join P [] ys h k = k
all_join P (x ∷ xs) ys h k = (h.0, all_join P xs ys h.1 k)

-- facts of all items of lists one after another
pub all_parts : {X Y : Type 0} (P : Y → Type 0) (f : X → List Y) (xs : List X) → AllByRecursion P (flat_map f xs) → AllByRecursion (λ x. AllByRecursion P (f x)) xs
all_parts P f [] h = tt
all_parts P f (x ∷ xs) h = (all_front P (f x) (flat_map f xs) h, all_parts P f xs (all_back P (f x) (flat_map f xs) h))

-- facts of the images are facts of the items, and the other way round
pub all_map : {X Y : Type 0} (P : Y → Type 0) (Q : X → Type 0) (f : X → Y) → ((x : X) → P (f x) → Q x) → (xs : List X) → AllByRecursion P (map f xs) → AllByRecursion Q xs
all_map P Q f g [] h = tt
all_map P Q f g (x ∷ xs) h = (g x h.0, all_map P Q f g xs h.1)

pub all_map_back : {X Y : Type 0} (P : Y → Type 0) (Q : X → Type 0) (f : X → Y) → ((x : X) → Q x → P (f x)) → (xs : List X) → AllByRecursion Q xs → AllByRecursion P (map f xs)
all_map_back P Q f g [] h = tt
all_map_back P Q f g (x ∷ xs) h = (g x h.0, all_map_back P Q f g xs h.1)

pub both_map : {X Y : Type 0} (P : Y → Type 0) (Q R : X → Type 0) (f : X → Y) → ((x : X) → Q x → R x → P (f x)) → (xs : List X) → AllByRecursion Q xs → AllByRecursion R xs → AllByRecursion P (map f xs)
both_map P Q R f g [] h k = tt
both_map P Q R f g (x ∷ xs) h k = (g x h.0 k.0, both_map P Q R f g xs h.1 k.1)

-- maps by functions that agree, at all values or at the items
pub same_map : {X Y : Type 0} (f g : X → Y) → ((x : X) → f x ≡ g x) → (xs : List X) → map f xs ≡ map g xs
same_map f g h xs = ap (λ k. map k xs) (λ i x. h x i)

pub map_alike : {X Y Z : Type 0} (p : Y → Z) (f : X → Y) (q : X → Z) (Q : X → Type 0) → ((x : X) → Q x → p (f x) ≡ q x) → (xs : List X) → AllByRecursion Q xs → map p (map f xs) ≡ map q xs
map_alike p f q Q e [] h = refl
map_alike p f q Q e (x ∷ xs) h = λ i. e x h.0 i ∷ map_alike p f q Q e xs h.1 i

pub map_twice : {X Y Z : Type 0} (g : Y → Z) (f : X → Y) (xs : List X) → map g (map f xs) ≡ map (λ x. g (f x)) xs
map_twice g f [] = refl
map_twice g f (x ∷ xs) = ap (λ ys. g (f x) ∷ ys) (map_twice g f xs)

pub map_join : {X Y : Type 0} (f : X → Y) (xs ys : List X) → map f (xs ++ ys) ≡ map f xs ++ map f ys
map_join f [] ys = refl
map_join f (x ∷ xs) ys = ap (λ zs. f x ∷ zs) (map_join f xs ys)

pub take_front : {X Y : Type 0} (f : X → Y) (xs : List X) (ys : List Y) → take (length xs) (map f xs ++ ys) ≡ map f xs
take_front f [] ys = refl
take_front f (x ∷ xs) ys = ap (λ zs. f x ∷ zs) (take_front f xs ys)

pub length_map : {X Y : Type 0} (f : X → Y) (xs : List X) → length (map f xs) ≡ length xs
length_map f [] = refl
length_map f (x ∷ xs) = ap suc (length_map f xs)

-- an item of two joined lists is one of the first, or stands behind them in the second
pub get_front : {X : Type 0} (xs ys : List X) (i : ℕ) → i < length xs → slice_get (xs ++ ys) i ≡ slice_get xs i
get_front [] ys i h = absurd (omega arith)
get_front (x ∷ xs) ys zero h = refl
get_front (x ∷ xs) ys (suc i) h = get_front xs ys i (omega arith)

pub get_back : {X : Type 0} (xs ys : List X) (i : ℕ) → slice_get (xs ++ ys) (length xs + i) ≡ slice_get ys i
get_back [] ys i = ap (slice_get ys) (omega arith)
get_back (x ∷ xs) ys i =
    let e : suc (length xs) + i ≡ suc (length xs + i) = omega arith in
    ap (slice_get (x ∷ (xs ++ ys))) e ∙ get_back xs ys i

pub get_map : {X Y : Type 0} (f : X → Y) (xs : List X) (i : ℕ) (y : Y) → slice_get (map f xs) i ≡ Some y → (x : X) × (slice_get xs i ≡ Some x) × (f x ≡ y)
get_map f [] i y h = cc
get_map f (x ∷ xs) zero y h = (x, refl, cc)
get_map f (x ∷ xs) (suc i) y h = get_map f xs i y h

pub get_some : {X : Type 0} (xs : List X) (i : ℕ) → i < length xs → (x : X) × (slice_get xs i ≡ Some x)
get_some [] i h = absurd (omega arith)
get_some (x ∷ xs) zero h = (x, refl)
get_some (x ∷ xs) (suc i) h = get_some xs i (omega arith)

-- what holds of all items of two joined lists holds of those of each
pub in_front : {X : Type 0} (P : X → Type 0) (xs ys : List X) → All P (xs ++ ys) → All P xs
in_front P xs ys h = All-from_recursion P xs (all_front P xs ys (recursion_from_All P (xs ++ ys) h))

pub in_back : {X : Type 0} (P : X → Type 0) (xs ys : List X) → All P (xs ++ ys) → All P ys
in_back P xs ys h = All-from_recursion P ys (all_back P xs ys (recursion_from_All P (xs ++ ys) h))

-- maps by functions that agree at the items
pub same_map_at : {X Y : Type 0} (f g : X → Y) (P : X → Type 0) → ((x : X) → P x → f x ≡ g x) → (xs : List X) → AllByRecursion P xs → map f xs ≡ map g xs
same_map_at f g P e [] h = refl
same_map_at f g P e (x ∷ xs) h = λ i. e x h.0 i ∷ same_map_at f g P e xs h.1 i

-- what a slice of a whole vector is written to is the whole vector after it
pub whole_written : {X : Type 0} (n : ℕ) (xs new : List X) → n ≡ length xs → length new ≡ length xs → take n (new ++ drop (length new) xs) ≡ new
whole_written n xs new count long =
    let none : drop (length new) xs ≡ [] = nothing (drop (length new) xs) (omega (arith, length-drop (length new) xs)) in
    let all : n ≡ length new = omega (arith, count, long) in
    ap (λ ks. take n (new ++ ks)) none ∙ ap (take n) (append-nil new) ∙ ap (λ k. take k new) all ∙ take-length new
  where
    nothing : {X : Type 0} (ys : List X) → length ys ≡ 0 → ys ≡ []
    nothing [] h = refl
    nothing (y ∷ ys) h = absurd (omega (arith, h))
