-- A segment with one source more.
use Rattle.std.proofs.Common.{◌≡◌, ◌<◌, ℕ, List, [], ◌∷◌, ◌++◌, false, eqb}
use Rattle.std.specs.List.{All, AllByRecursion, IsDistinct}
use Rattle.std.proofs.lemmas.List.Elements.{recursion_from_All}
use Rattle.std.proofs.lemmas.Map.Keys.{IsDistinct-cons, IsDistinct-head, IsDistinct-tail}
use Rattle.bb_code.specs.Segments.{IsSegment}

-- what all items have, one item more has
all_push : (P : ℕ → Type 0) (xs : List ℕ) (y : ℕ) → AllByRecursion P xs → P y → AllByRecursion P (xs ++ y ∷ [])
all_push P [] y h k = (k, tt)
all_push P (x ∷ xs) y h k = (h.0, all_push P xs y h.1 k)

-- no item stands twice in an empty list
pub none_twice : IsDistinct eqb []
unfolding IsDistinct
none_twice = tt

-- an item that isn't there
distinct_push : (xs : List ℕ) (y : ℕ) → IsDistinct eqb xs → AllByRecursion (λ x. eqb x y ≡ false) xs → IsDistinct eqb (xs ++ y ∷ [])
distinct_push [] y h new = IsDistinct-cons eqb y [] tt none_twice
distinct_push (x ∷ xs) y h new =
    IsDistinct-cons eqb x (xs ++ y ∷ []) (all_push (λ z. eqb x z ≡ false) xs y (IsDistinct-head eqb x xs h) new.0)
    (distinct_push xs y (IsDistinct-tail eqb x xs h) new.1)

-- one source more
pub segment_push : (sources : ℕ) (segment : List ℕ) (y : ℕ) → IsSegment sources segment → y < sources → All (λ x. eqb x y ≡ false) segment
    → IsSegment sources (segment ++ y ∷ [])
segment_push sources segment y h lt new = record {
  below = all_push (λ source. source < sources) segment y h.below lt;
  distinct = distinct_push segment y h.distinct (recursion_from_All (λ x. eqb x y ≡ false) segment new);
}
