-- Lists by the places of their items.
use Rattle.std.proofs.Common.{arith, ◌≡◌, ℕ, zero, suc, ◌<◌, List, [], ◌∷◌, length, get_or, Some, slice_get, slice_index}
use Rattle.std.specs.List.{AllZip}

-- the number at a place
pub at_index : (xs : List ℕ) (k x : ℕ) → slice_get xs k ≡ Some x → slice_index xs k ≡ x
at_index [] k x at = absurd (cc at)
at_index (y ∷ xs) zero x at = cc at
at_index (y ∷ xs) (suc k) x at = at_index xs k x at

-- a relation of two lists at a place
pub zip_at : {X Y : Type 0} (R : X → Y → Type 0) (xs : List X) (ys : List Y) (i : ℕ) (x : X) (y : Y) → AllZip R xs ys → i < length ys → R (get_or xs i x) (get_or ys i y)
zip_at R [] [] i x y h less = absurd (omega (arith, less))
zip_at R [] (w ∷ ys) i x y h less = absurd h
zip_at R (v ∷ xs) [] i x y h less = absurd h
zip_at R (v ∷ xs) (w ∷ ys) zero x y h less = h.0
zip_at R (v ∷ xs) (w ∷ ys) (suc i) x y h less = zip_at R xs ys i x y h.1 (omega (arith, less))
