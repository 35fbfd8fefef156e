-- Two lists side by side.
use Rattle.std.proofs.Common.{arith, ◌≡◌, ℕ, zero, suc, ◌+◌, ◌<◌, List, [], ◌∷◌, ◌++◌, length, take, get_or, refl, ap, subst, slice_get, Some}
use Rattle.std.specs.List.{AllByRecursion, AllZip}

-- as long as one another
pub zip_long : {X Y : Type 0} (P : X → Y → Type 0) (xs : List X) (ys : List Y) → AllZip P xs ys → length ys ≡ length xs
zip_long P [] [] h = refl
zip_long P [] (y ∷ ys) h = absurd h
zip_long P (x ∷ xs) [] h = absurd h
zip_long P (x ∷ xs) (y ∷ ys) h = ap suc (zip_long P xs ys h.1)

-- the item at the same place
pub zip_at : {X Y : Type 0} (P : X → Y → Type 0) (xs : List X) (ys : List Y) (i : ℕ) (x : X) → AllZip P xs ys → slice_get xs i ≡ Some x → (y : Y) × (slice_get ys i ≡ Some y) × P x y
zip_at P [] ys i x h at = absurd (cc at)
zip_at P (x ∷ xs) [] i z h at = absurd h
zip_at P (x ∷ xs) (y ∷ ys) zero z h at = let same : x ≡ z = cc at in (y, refl, subst (λ w. P w y) same h.0)
zip_at P (x ∷ xs) (y ∷ ys) (suc i) z h at = zip_at P xs ys i z h.1 at

-- one item more on each side
pub zip_more : {X Y : Type 0} (P : X → Y → Type 0) (xs : List X) (ys : List Y) (i : ℕ) (x : X) (y : Y) → i < length xs → x ≡ get_or xs i x → AllZip P (take i xs) ys → P x y → AllZip P (take (i + 1) xs) (ys ++ y ∷ [])
zip_more {X} {Y} P xs ys i x y less is zip here = let more : suc i ≡ i + 1 = omega arith in subst (λ n. AllZip P (take n xs) (ys ++ y ∷ [])) more (step xs ys i less is zip)
  where
    step : (xs : List X) (ys : List Y) (i : ℕ) → i < length xs → x ≡ get_or xs i x → AllZip P (take i xs) ys → AllZip P (take (suc i) xs) (ys ++ y ∷ [])
    step [] ys i less is zip = absurd (omega (arith, less))
    step (z ∷ xs) [] zero less is zip = (subst (λ w. P w y) is here, tt)
    step (z ∷ xs) (w ∷ ys) zero less is zip = absurd zip
    step (z ∷ xs) [] (suc i) less is zip = absurd zip
    step (z ∷ xs) (w ∷ ys) (suc i) less is zip = (zip.0, step xs ys i (omega (arith, less)) is zip.1)

-- one item more behind both
pub zip_push : {X Y : Type 0} (P : X → Y → Type 0) (xs : List X) (ys : List Y) (x : X) (y : Y) → AllZip P xs ys → P x y → AllZip P (xs ++ x ∷ []) (ys ++ y ∷ [])
zip_push P [] [] x y zip one = (one, tt)
zip_push P [] (z ∷ ys) x y zip one = absurd zip
zip_push P (z ∷ xs) [] x y zip one = absurd zip
zip_push P (z ∷ xs) (w ∷ ys) x y zip one = (zip.0, zip_push P xs ys x y zip.1 one)

-- another fact of each pair
pub zip_map : {X Y : Type 0} (P Q : X → Y → Type 0) → ((x : X) (y : Y) → P x y → Q x y) → (xs : List X) (ys : List Y) → AllZip P xs ys → AllZip Q xs ys
zip_map P Q f [] [] zip = tt
zip_map P Q f [] (y ∷ ys) zip = absurd zip
zip_map P Q f (x ∷ xs) [] zip = absurd zip
zip_map P Q f (x ∷ xs) (y ∷ ys) zip = (f x y zip.0, zip_map P Q f xs ys zip.1)

-- a fact of the first of each pair
pub zip_firsts : {X Y : Type 0} (P : X → Y → Type 0) (Q : X → Type 0) → ((x : X) (y : Y) → P x y → Q x) → (xs : List X) (ys : List Y) → AllZip P xs ys → AllByRecursion Q xs
zip_firsts P Q f [] ys zip = tt
zip_firsts P Q f (x ∷ xs) [] zip = absurd zip
zip_firsts P Q f (x ∷ xs) (y ∷ ys) zip = (f x y zip.0, zip_firsts P Q f xs ys zip.1)
