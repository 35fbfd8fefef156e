-- Lists that are alike item by item: registers and chains of the same cells.
use Rattle.std.proofs.Common.{◌≡◌, ℕ, zero, suc, List, [], ◌∷◌, refl, subst, slice_get, Some}
use Rattle.std.specs.List.{AllZip}

-- the other list's item at a place
pub zip_forth : {X Y : Type 0} (R : X → Y → Type 0) (xs : List X) (ys : List Y) (i : ℕ) (x : X) → AllZip R xs ys → slice_get xs i ≡ Some x → (y : Y) × (slice_get ys i ≡ Some y) × R x y
zip_forth R [] ys i x h at = absurd (cc at)
zip_forth R (z ∷ xs) [] i x h at = absurd h
zip_forth R (z ∷ xs) (y ∷ ys) zero x h at = let same : z ≡ x = cc at in (y, refl, subst (λ w. R w y) same h.0)
zip_forth R (z ∷ xs) (y ∷ ys) (suc i) x h at = zip_forth R xs ys i x h.1 at

pub zip_back : {X Y : Type 0} (R : X → Y → Type 0) (xs : List X) (ys : List Y) (i : ℕ) (y : Y) → AllZip R xs ys → slice_get ys i ≡ Some y → (x : X) × (slice_get xs i ≡ Some x) × R x y
zip_back R [] [] i y h at = absurd (cc at)
zip_back R [] (z ∷ ys) i y h at = absurd h
zip_back R (x ∷ xs) [] i y h at = absurd h
zip_back R (x ∷ xs) (z ∷ ys) zero y h at = let same : z ≡ y = cc at in (x, refl, subst (R x) same h.0)
zip_back R (x ∷ xs) (z ∷ ys) (suc i) y h at = zip_back R xs ys i y h.1 at
