-- The table of cells, row by row.
use Rattle.std.proofs.Common.{arith, ◌≡◌, ℕ, zero, suc, ◌+◌, ◌<◌, ◌≤◌, Bool, true, false, cond, List, [], ◌∷◌, map, length, drop, get_or, refl, sym, ap, ◌∙◌}
use Rattle.std.specs.Prelude.{Option, Some}
use Rattle.std.proofs.lemmas.Grind.{common_steps}
use Rattle.std.specs.List.{list_all, zip}
use Rattle.std.specs.Map.{lookup}
use Rattle.std.specs.Str.{bytes_eq}
use Rattle.bb_scope.specs.declared.cells.Row.{Row}
use Rattle.bb_scope.specs.Cells.{Kind}
use Rattle.bb_scope.specs.Kinds.{kind_value, row_value}

-- the items from a place on
pub from_place : {X : Type 0} (xs : List X) (i : ℕ) (d : X) → i < length xs → drop i xs ≡ get_or xs i d ∷ drop (i + 1) xs
from_place [] i d h = absurd (omega (arith, h))
from_place (x ∷ xs) zero d h = refl
from_place (x ∷ xs) (suc i) d h = let k : suc i + 1 ≡ suc (i + 1) = omega arith in from_place xs i d (omega (arith, h)) ∙ ap (λ n. get_or xs i d ∷ drop n (x ∷ xs)) (sym k)

pub row_next :
    (rows : List Row) (i : ℕ) (d : Row) (name : List ℕ) → i < length rows
    → lookup (bytes_eq name) (map row_value (drop i rows)) ≡ cond (bytes_eq name (get_or rows i d).name.now) (Some (kind_value (get_or rows i d).kind)) (lookup (bytes_eq name) (map row_value (drop (i + 1) rows)))
row_next rows i d name h = ap (λ z. lookup (bytes_eq name) (map row_value z)) (from_place rows i d h)

pub row_taken :
    (rows : List Row) (i : ℕ) (d : Row) (name : List ℕ) (found : Option Kind) → i < length rows → bytes_eq name (get_or rows i d).name.now ≡ true
    → lookup (bytes_eq name) (map row_value (drop i rows)) ≡ found → Some (kind_value (get_or rows i d).kind) ≡ found
row_taken rows i d name found h t e =
    sym (ap (λ b. cond b (Some (kind_value (get_or rows i d).kind)) (lookup (bytes_eq name) (map row_value (drop (i + 1) rows)))) t) ∙ (sym (row_next rows i d name h) ∙ e)

pub row_passed :
    (rows : List Row) (i : ℕ) (d : Row) (name : List ℕ) (found : Option Kind) → i < length rows → bytes_eq name (get_or rows i d).name.now ≡ false
    → lookup (bytes_eq name) (map row_value (drop i rows)) ≡ found → lookup (bytes_eq name) (map row_value (drop (i + 1) rows)) ≡ found
row_passed rows i d name found h t e =
    sym (ap (λ b. cond b (Some (kind_value (get_or rows i d).kind)) (lookup (bytes_eq name) (map row_value (drop (i + 1) rows)))) t) ∙ (sym (row_next rows i d name h) ∙ e)

none_left : {X : Type 0} (xs : List X) (i : ℕ) → length xs ≤ i → drop i xs ≡ []
none_left xs i h = grind (arith, common_steps)

zip_nothing : {X Y : Type 0} (xs : List X) → ◌≡◌ {A = List (X × Y)} (zip xs []) []
zip_nothing [] = refl
zip_nothing (x ∷ xs) = refl

-- where no terminal is left, nothing is left to test
pub no_more :
    {X Y Z : Type 0} (P : X × Z → Bool) (f : Y → Z) (xs : List X) (ys : List Y) (i : ℕ) (all : Bool) → length ys ≤ i → list_all P (zip xs (map f (drop i ys))) ≡ all → true ≡ all
no_more P f xs ys i all h e = sym (ap (λ z. list_all P (zip xs (map f z))) (none_left ys i h) ∙ ap (list_all P) (zip_nothing xs)) ∙ e
