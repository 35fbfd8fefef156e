-- Duals pair by pair, and the columns of a chain register by register.
use Rattle.std.proofs.Common.{arith, ◌≡◌, ℕ, ◌+◌, ◌<◌, ◌≤◌, ◌^◌, List, [], ◌∷◌, ◌++◌, length, map, take, Some, slice_get, slice_index, sym, ap, ◌∙◌, append_assoc, append-nil}
use Rattle.std.proofs.lemmas.Option.{slice_get_within}
use Rattle.std.proofs.lemmas.List.Elements.{All-from_recursion, All-contains}
use Rattle.std.specs.List.{flat_map}
use Rattle.bb_base.proofs.Contained.{by_place, contains_at}
use Rattle.bb_base.proofs.Lists.{get_some, length_map, map_join}
use Rattle.bb_base.specs.Dual.{IsDual}
use Rattle.bb_lay.proofs.Clocks.{take_push}
use Rattle.bb_terms.specs.declared.plan.Cell.{Cell}
use Rattle.bb_terms.specs.Plan.{RegisterValue, PlanValue, chain}
use Rattle.bb_terms.specs.Valid.{column_at}
use Rattle.bb_audit.specs.Certified.{HaveDuals}
use Rattle.bb_alike.proofs.ListLemmas.{number_at}

-- the columns of the cells that pairs begin with, and the numbers that they end in
abbrev pub rows : PlanValue → List (ℕ × ℕ) → List ℕ
rows p pairs = map (λ pair. column_at p pair.0) pairs

abbrev pub ends : List (ℕ × ℕ) → List ℕ
ends pairs = map (λ pair. pair.1) pairs

-- the number that the pair at a place ends in is a dual
abbrev pub IsDualEnd : PlanValue → List (ℕ × ℕ) → ℕ → Type 0
IsDualEnd p pairs place = (slice_index (ends pairs) place < 2 ^ p.degree) × IsDual (rows p pairs) place (slice_index (ends pairs) place)

rows_long : (p : PlanValue) (pairs : List (ℕ × ℕ)) → length (rows p pairs) ≡ length pairs
rows_long p pairs = length_map (λ (pair : ℕ × ℕ). column_at p pair.0) pairs

end_at : (pairs : List (ℕ × ℕ)) (k : ℕ) (pair : ℕ × ℕ) → slice_get pairs k ≡ Some pair → slice_index (ends pairs) k ≡ pair.1
end_at pairs k pair at = number_at (λ (pair : ℕ × ℕ). pair.1) pairs k pair at

pub from_ends : (p : PlanValue) (pairs : List (ℕ × ℕ)) (n : ℕ) → length pairs ≤ n → ((k : ℕ) → k < n → IsDualEnd p pairs k) → HaveDuals p pairs
from_ends p pairs n past each = record {
  short = All-from_recursion (λ (pair : ℕ × ℕ). pair.1 < 2 ^ p.degree) pairs
      (by_place (λ (pair : ℕ × ℕ). pair.1 < 2 ^ p.degree) pairs
      (λ k pair at. let within = slice_get_within pairs k pair at in let low = (each k (omega (arith, within, past))).0 in omega (arith, low, end_at pairs k pair at)));
  duals = record {
    one_each = length_map (λ (pair : ℕ × ℕ). pair.1) pairs ∙ sym (rows_long p pairs);
    dual = λ place less. (each place (omega (arith, less, past, rows_long p pairs))).1;
  };
}

pub to_ends : (p : PlanValue) (pairs : List (ℕ × ℕ)) → HaveDuals p pairs → (k : ℕ) → k < length pairs → IsDualEnd p pairs k
to_ends p pairs h k less =
    let item = get_some pairs k less in
    let low : item.0.1 < 2 ^ p.degree = All-contains (λ (pair : ℕ × ℕ). pair.1 < 2 ^ p.degree) pairs item.0 h.short (contains_at pairs k item.0 item.1) in
    (omega (arith, low, end_at pairs k item.0 item.1), h.duals.dual k (omega (arith, less, rows_long p pairs)))

-- columns at hand are those of the plan
pub same_rows : (p : PlanValue) (columns : List ℕ) (pairs : List (ℕ × ℕ)) → columns ≡ map (λ c. c.column) (chain p) → map (λ (pair : ℕ × ℕ). slice_index columns pair.0) pairs ≡ rows p pairs
same_rows p columns pairs same = ap (λ (cs : List ℕ). map (λ (pair : ℕ × ℕ). slice_index cs pair.0) pairs) same

-- the columns of registers one after another
pub flat_push : {X Y : Type 0} (f : X → List Y) (xs : List X) (x : X) → flat_map f (xs ++ x ∷ []) ≡ flat_map f xs ++ f x
flat_push f [] x = append-nil (f x)
flat_push f (y ∷ xs) x = ap (λ ys. f y ++ ys) (flat_push f xs x) ∙ sym (append_assoc (f y) (flat_map f xs) (f x))

pub columns_more : (registers : List RegisterValue) (n : ℕ) (g : RegisterValue) (old new : List ℕ) → slice_get registers n ≡ Some g
    → old ≡ map (λ (c : Cell). c.column) (flat_map (λ (g : RegisterValue). g.cells) (take n registers)) → new ≡ old ++ map (λ (c : Cell). c.column) g.cells
    → new ≡ map (λ (c : Cell). c.column) (flat_map (λ (g : RegisterValue). g.cells) (take (n + 1) registers))
columns_more registers n g old new at before added =
    let front : List Cell = flat_map (λ (g : RegisterValue). g.cells) (take n registers) in
    added ∙ ap (λ xs. xs ++ map (λ (c : Cell). c.column) g.cells) before ∙ sym (map_join (λ (c : Cell). c.column) front g.cells)
    ∙ ap (map (λ (c : Cell). c.column)) (sym (flat_push (λ (g : RegisterValue). g.cells) (take n registers) g)) ∙ ap (λ gs. map (λ (c : Cell). c.column) (flat_map (λ (g : RegisterValue). g.cells) gs)) (sym (take_push registers n g at))
