-- Cells by their numbers, and the one source cell of a net.
use Rattle.std.proofs.Common.{◌≡◌, ℕ, zero, suc, ◌+◌, ◌<◌, ◌==◌, ◌&&◌, ◌||◌, List, [], ◌∷◌, ◌++◌, length, take, Bool, true, false, cond, refl, sym, ap, subst, ◌∙◌, arith, slice_get, Option, Some, None, length-append}
use Rattle.std.proofs.lemmas.Bool.Decides.{nat_tests}
use Rattle.bb_terms.proofs.ChainLemmas.{cells_of}
use Rattle.bb_base.specs.Net.{Netlist}
use Rattle.bb_base.proofs.Lists.{get_back}
use Rattle.bb_terms.specs.declared.plan.Cell.{Cell}
use Rattle.bb_terms.specs.Kinds.{is_source}
use Rattle.bb_terms.specs.Plan.{RegisterValue, PlanValue, chain, IsCell}
use Rattle.bb_terms.specs.Lines.{source_in, source_from, or_later, column_in, column_of}
use Rattle.bb_terms.specs.Rules.{Apart, Holds}

pub get_left : {X : Type 0} (xs ys : List X) (k : ℕ) (x : X) → slice_get xs k ≡ Some x → slice_get (xs ++ ys) k ≡ Some x
get_left [] ys k x at = absurd (cc at)
get_left (y ∷ xs) ys zero x at = at
get_left (y ∷ xs) ys (suc k) x at = get_left xs ys k x at

cell_in : (registers : List RegisterValue) (r place : ℕ) (g : RegisterValue) (c : Cell) → slice_get registers r ≡ Some g → slice_get g.cells place ≡ Some c
    → slice_get (cells_of registers) (length (cells_of (take r registers)) + place) ≡ Some c
cell_in [] r place g c stands at = absurd (cc stands)
cell_in (f ∷ registers) zero place g c stands at =
    let same : f ≡ g = cc stands in
    let e : 0 + place ≡ place = omega arith in
    ap (slice_get (f.cells ++ cells_of registers)) e ∙ get_left f.cells (cells_of registers) place c (subst (λ (h : RegisterValue). slice_get h.cells place ≡ Some c) (sym same) at)
cell_in (f ∷ registers) (suc r) place g c stands at =
    let long = length-append f.cells (cells_of (take r registers)) in
    let e : length (f.cells ++ cells_of (take r registers)) + place ≡ length f.cells + (length (cells_of (take r registers)) + place) = omega (arith, long) in
    ap (slice_get (f.cells ++ cells_of registers)) e ∙ get_back f.cells (cells_of registers) (length (cells_of (take r registers)) + place) ∙ cell_in registers r place g c stands at

-- a cell stands in the chain at its number
pub cell_at : (p : PlanValue) (i r : ℕ) (c : Cell) → IsCell p i r c → slice_get (chain p) i ≡ Some c
cell_at p i r c h = ap (slice_get (chain p)) h.number ∙ cell_in p.registers r h.place h.register c h.stands h.at

-- the column of a source cell that was found
abbrev pub column_found : Option Cell → ℕ
column_found None = 0
column_found (Some c) = c.column

or_else : Option Cell → Option Cell → Option Cell
or_else None later = later
or_else (Some c) later = Some c

found_join : (xs ys : List Cell) (net : ℕ) → source_in (xs ++ ys) net ≡ or_else (source_in xs net) (source_in ys net)
unfolding or_else
found_join [] ys net = refl
found_join (c ∷ xs) ys net = by (is_source c.kind && (c.net == net)) (found_join xs ys net)
  where
    by : (b : Bool) → source_in (xs ++ ys) net ≡ or_else (source_in xs net) (source_in ys net) → cond b (Some c) (source_in (xs ++ ys) net) ≡ or_else (cond b (Some c) (source_in xs net)) (source_in ys net)
    by true rest = refl
    by false rest = rest

pub column_from : (r : ℕ) (registers : List RegisterValue) (net : ℕ) → column_in (source_from r registers net) ≡ column_found (source_in (cells_of registers) net)
unfolding or_else
column_from r [] net = refl
column_from r (g ∷ registers) net = by (source_in g.cells net) (column_from (suc r) registers net) ∙ ap column_found (sym (found_join g.cells (cells_of registers) net))
  where
    by : (found : Option Cell) → column_in (source_from (suc r) registers net) ≡ column_found (source_in (cells_of registers) net)
        → column_in (or_later found r (source_from (suc r) registers net)) ≡ column_found (or_else found (source_in (cells_of registers) net))
    by None rest = rest
    by (Some c) rest = refl

-- the first source cell on a net is found
pub found_first : (cells : List Cell) (i : ℕ) (c : Cell) → slice_get cells i ≡ Some c → is_source c.kind ≡ true → ((j : ℕ) (d : Cell) → j < i → slice_get cells j ≡ Some d → d.net ≡ c.net → is_source d.kind ≡ false) → source_in cells c.net ≡ Some c
found_first [] i c at source before = absurd (cc at)
found_first (d ∷ cells) zero c at source before =
    let same : d ≡ c = cc at in
    let hit : (is_source c.kind && (c.net == c.net)) ≡ true = both (is_source c.kind) (c.net == c.net) source (grind (arith, nat_tests)) in
    ap (λ (e : Cell). cond (is_source e.kind && (e.net == c.net)) (Some e) (source_in cells c.net)) same ∙ ap (λ b. cond b (Some c) (source_in cells c.net)) hit
  where
    both : (a b : Bool) → a ≡ true → b ≡ true → (a && b) ≡ true
    both true b h k = k
    both false b h k = h
found_first (d ∷ cells) (suc i) c at source before =
    ap (λ b. cond b (Some d) (source_in cells c.net)) missed ∙ found_first cells i c at source (λ j e less there on. before (suc j) e (omega (arith, less)) there on)
  where
    none : (a b : Bool) → (b ≡ true → a ≡ false) → (a && b) ≡ false
    none true true h = h refl
    none true false h = refl
    none false b h = refl

    missed : (is_source d.kind && (d.net == c.net)) ≡ false
    missed = none (is_source d.kind) (d.net == c.net) (λ same. before 0 d (omega arith) refl (grind (arith, nat_tests, same)))

-- a net's column is that of its source cell
pub column_is : (a : Netlist ℕ) (p : PlanValue) (i : ℕ) (c : Cell) → Holds a p Apart → slice_get (chain p) i ≡ Some c → is_source c.kind ≡ true → column_of p c.net ≡ c.column
column_is a p i c apart at source = column_from 0 p.registers c.net ∙ ap column_found (found_first (chain p) i c at source others)
  where
    first_false : (x y z : Bool) → y ≡ true → ((x && y) || z) ≡ false → x ≡ false
    first_false true true z h k = absurd (cc k)
    first_false true false z h k = absurd (cc h)
    first_false false y z h k = refl

    others : (j : ℕ) (d : Cell) → j < i → slice_get (chain p) j ≡ Some d → d.net ≡ c.net → is_source d.kind ≡ false
    others j d less there on = first_false (is_source d.kind) (is_source c.kind) _ source (apart i c at j d less there on)
