-- The codes of a line's leaves: each vector of them comes in a full walk.
use Rattle.std.proofs.Common.{◌≡◌, ℕ, zero, suc, ◌<◌, ◌^◌, ◌==◌, ◌&&◌, Bool, true, false, List, [], ◌∷◌, length, map, cond, refl, sym, ap, subst, ◌∙◌, arith, get_or, slice_get, slice_index, Some}
use Rattle.std.proofs.lemmas.List.{get_or_past}
use Rattle.std.proofs.lemmas.Nat.{pow_pos}
use Rattle.std.proofs.lemmas.List.Elements.{All-from_recursion}
use Rattle.std.specs.List.{AllByRecursion}
use Rattle.bb_base.specs.Net.{Netlist, IsNetlist}
use Rattle.bb_base.specs.Dual.{AreDuals}
use Rattle.bb_base.specs.Parity.{code_bit}
use Rattle.bb_gf2.proofs.Pairing.{duals_from_least}
use Rattle.bb_gf2.proofs.Existence.{duals_exist, duals_below}
use Rattle.bb_terms.specs.Register.{state_after}
use Rattle.bb_gf2.proofs.Orbit.{vector_comes}
use Rattle.bb_base.proofs.Lists.{map_twice, length_map}
use Rattle.bb_base.proofs.Contained.{of_all, each_same}
use Rattle.bb_terms.specs.Paths.{Start, Behind, IsLeaf}
use Rattle.bb_terms.specs.declared.kind.Kind.{Kind}
use Rattle.bb_terms.specs.declared.kind.Kind.TheVariants.{Input, State, Split, Cut, Watch, Output}
use Rattle.bb_terms.specs.declared.plan.Cell.{Cell}
use Rattle.bb_terms.specs.Kinds.{is_source, is_observer}
use Rattle.bb_terms.specs.Plan.{PlanValue, chain}
use Rattle.bb_terms.specs.Lines.{is_stop, source_in, column_of, StartsBehind, IsStart, IsStartOf, IsLeafOf}
use Rattle.bb_terms.specs.Rules.{Columns, Codes, Period, Holds}
use Rattle.bb_terms.specs.Valid.{SegmentValue, IsSegmentOf, column_at}
use Rattle.bb_terms.specs.Signatures.{code_at}
use Rattle.bb_rules.proofs.CellLemmas.{column_found, column_from}
use Rattle.bb_terms.proofs.NetLemmas.{one_gate}

-- a cell's walk has one start
pub one_start : (a : Netlist ℕ) (c : Cell) (x y : Start ℕ) → IsNetlist a → IsStart a c x → IsStart a c y → x ≡ y
one_start a c x y fits hx hy = by c.kind hx hy
  where
    behind : StartsBehind a c.net x → StartsBehind a c.net y → x ≡ y
    behind f g = f.3 ∙ ap Behind (one_gate a f.0 g.0 fits f.1 g.1 (f.2 ∙ sym g.2)) ∙ sym g.3

    by : (kind : Kind) → IsStartOf a kind c.net x → IsStartOf a kind c.net y → x ≡ y
    by Input hx hy = absurd hx
    by State hx hy = hx ∙ sym hy
    by Split hx hy = hx ∙ sym hy
    by Cut hx hy = behind hx hy
    by Watch hx hy = hx ∙ sym hy
    by Output hx hy = behind hx hy

-- columns fit
found_below : (cells : List Cell) (net most : ℕ) → 0 < most → ((i : ℕ) (c : Cell) → slice_get cells i ≡ Some c → c.column < most) → column_found (source_in cells net) < most
found_below [] net most some small = some
found_below (c ∷ cells) net most some small = by (is_source c.kind && (c.net == net)) (found_below cells net most some (λ i d at. small (suc i) d at))
  where
    by : (b : Bool) → column_found (source_in cells net) < most → column_found (cond b (Some c) (source_in cells net)) < most
    by true rest = small 0 c refl
    by false rest = rest

module _ (a : Netlist ℕ) (p : PlanValue) (columns : Holds a p Columns) where
  column_below : (net : ℕ) → column_of p net < 2 ^ p.degree
  column_below net = subst (λ n. n < 2 ^ p.degree) (sym (column_from 0 p.registers net)) (found_below (chain p) net (2 ^ p.degree) (pow_pos p.degree) (λ i c at. (columns i c at).below))

  columns_below : (nets : List ℕ) → AllByRecursion (λ column. column < 2 ^ p.degree) (map (column_of p) nets)
  columns_below [] = tt
  columns_below (net ∷ nets) = (column_below net, columns_below nets)

  all_below : (cells : List Cell) → ((i : ℕ) (c : Cell) → slice_get cells i ≡ Some c → c.column < 2 ^ p.degree) → (i : ℕ) → get_or (map (λ (c : Cell). c.column) cells) i 0 < 2 ^ p.degree
  all_below [] small i = subst (λ n. n < 2 ^ p.degree) (sym (get_or_past [] i 0 (omega arith))) (pow_pos p.degree)
  all_below (c ∷ cells) small zero = small 0 c refl
  all_below (c ∷ cells) small (suc i) = all_below cells (λ j d at. small (suc j) d at) i

  cells_below : (numbers : List ℕ) → AllByRecursion (λ column. column < 2 ^ p.degree) (map (column_at p) numbers)
  cells_below [] = tt
  cells_below (i ∷ numbers) = (all_below (chain p) (λ j c at. (columns j c at).below) i, cells_below numbers)

  -- the duals of a segment are below the number of states
  pub segment_duals_below : (observer : ℕ × Cell) (segment : SegmentValue) → IsSegmentOf a p observer segment → (place : ℕ) → place < length segment.duals → slice_index segment.duals place < 2 ^ p.degree
  segment_duals_below observer segment h place less =
      let rows : List ℕ = map (column_at p) segment.leaves in
      duals_below p.degree rows segment.duals h.duals (λ i l. All-from_recursion (λ column. column < 2 ^ p.degree) rows (cells_below segment.leaves) i 0 l) place (subst (λ n. place < n) h.duals.one_each less)

pub segment_duals : (a : Netlist ℕ) (p : PlanValue) (observer : ℕ × Cell) (segment : SegmentValue) → IsSegmentOf a p observer segment → AreDuals (map (column_at p) segment.leaves) segment.duals
segment_duals a p observer segment h = duals_from_least (map (column_at p) segment.leaves) segment.duals h.duals

-- each vector of a line's leaves is their code at a state of the walk
pub vectors_come : (a : Netlist ℕ) (p : PlanValue) (i : ℕ) (c : Cell) → IsNetlist a → Holds a p Columns → Holds a p Codes → Holds a p Period → slice_get (chain p) i ≡ Some c → is_observer c.kind ≡ true
    → (u : ℕ → Bool) → (t : ℕ) × (t < 2 ^ p.degree) × ((net : ℕ) → IsLeafOf a p c net → code_at p (state_after p.degree p.mask t) net ≡ u net)
vectors_come a p i c fits columns codes full at observes u =
    let coded = codes i c at observes in
    let leaves : List ℕ = coded.0 in
    let rows : List ℕ = map (column_of p) leaves in
    let duals = duals_exist rows coded.2 in
    let small : (place : ℕ) → place < length duals.0 → get_or duals.0 place 0 < 2 ^ p.degree =
    λ place less.
    duals_below p.degree rows duals.0 duals.1 (λ j l. All-from_recursion (λ column. column < 2 ^ p.degree) rows (columns_below a p columns leaves) j 0 l) place (subst (λ n. place < n) duals.1.one_each less) in
    let t = vector_comes p.degree p.mask rows duals.0 (map u leaves) full (duals_from_least rows duals.0 duals.1) small (length_map u leaves ∙ sym (length_map (column_of p) leaves)) in
    let state : ℕ = state_after p.degree p.mask t.0 in
    let same : map (code_at p state) leaves ≡ map u leaves = sym (map_twice (λ column. code_bit column state) (column_of p) leaves) ∙ t.2 in
    let each = each_same (code_at p state) u leaves same in (
      t.0,
      t.1,
      λ net leaf.
          let start : leaf.start ≡ coded.1.start = one_start a c leaf.start coded.1.start fits leaf.begins coded.1.begins in
          of_all (λ n. code_at p state n ≡ u n) leaves net each ((coded.1.are.each net).1 (subst (λ s. IsLeaf a.gates (is_stop a p) s net) start leaf.leaf)),
    )
