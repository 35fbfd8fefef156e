-- The segments of a plan: one list at most, and the source cells of a line's leaves are those of its segment.
use Rattle.std.proofs.Common.{◌≡◌, ℕ, ◌<◌, List, [], ◌∷◌, length, map, refl, sym, subst, ◌∙◌, arith, true, slice_get, slice_index, Some, Contains}
use Rattle.std.proofs.lemmas.Grind.{same_number_lists}
use Rattle.std.specs.List.{AllZip}
use Rattle.bb_base.specs.Firsts.{IsLeast}
use Rattle.bb_base.proofs.Contained.{contains_at}
use Rattle.bb_base.specs.Net.{Netlist, IsNetlist}
use Rattle.bb_base.specs.Dual.{IsDual, AreLeastDuals}
use Rattle.bb_terms.specs.Paths.{Start, AtNet, Behind}
use Rattle.bb_segment.proofs.SupportLemmas.{ascending_same}
use Rattle.bb_terms.specs.declared.kind.Kind.{Kind}
use Rattle.bb_terms.specs.declared.kind.Kind.TheVariants.{Input, State, Split, Cut, Watch, Output}
use Rattle.bb_terms.specs.declared.plan.Cell.{Cell}
use Rattle.bb_terms.specs.Kinds.{has_line}
use Rattle.bb_terms.specs.Plan.{PlanValue, chain, observers}
use Rattle.bb_terms.specs.Lines.{d_of, IsStart, IsStartOf, StartsBehind, IsLeafOf}
use Rattle.bb_terms.specs.Rules.{Kinds, Served, Holds, MayStand, IsGateNet}
use Rattle.bb_terms.specs.Sources.{IsSourceAt}
use Rattle.bb_terms.specs.Valid.{SegmentValue, IsSegmentOf, IsSourceOf, ValidValue, IsValidFor, column_at}
use Rattle.bb_terms.proofs.StopLemmas.{leaf_within, source_at}

-- a line starts somewhere
pub some_start : (a : Netlist ℕ) (p : PlanValue) (i : ℕ) (c : Cell) → Holds a p Kinds → slice_get (chain p) i ≡ Some c → has_line c.kind ≡ true → (start : Start ℕ) × IsStart a c start
some_start a p i c kinds at lined = by c.kind lined (kinds i c at)
  where
    behind : IsGateNet a c.net → (start : Start ℕ) × StartsBehind a c.net start
    behind g = (Behind g.1.0, (g.1.0, contains_at a.gates g.0 g.1.0 g.1.1, g.1.2, refl))

    by : (kind : Kind) → has_line kind ≡ true → MayStand a kind c.net → (start : Start ℕ) × IsStartOf a kind c.net start
    by Input lined may = absurd (cc lined)
    by State lined may = (AtNet (d_of a.flops c.net), refl)
    by Split lined may = (AtNet (d_of a.flops c.net), refl)
    by Cut lined may = behind may
    by Watch lined may = (AtNet (d_of a.flops c.net), refl)
    by Output lined may = behind may.0

-- the source cell of each leaf is in the segment
pub leaf_in_segment : (a : Netlist ℕ) (p : PlanValue) (i net : ℕ) (c : Cell) (segment : SegmentValue) → IsNetlist a → Holds a p Kinds → Holds a p Served → slice_get (chain p) i ≡ Some c
    → IsSegmentOf a p (i, c) segment → IsLeafOf a p c net → (j : ℕ) × Contains segment.leaves j × IsSourceAt p net j
leaf_in_segment a p i net c segment fits kinds served at h leaf =
    let within = leaf_within a p c net fits (kinds i c at) leaf in
    let s = source_at a p net fits served within leaf.leaf.1 in
    let is : IsSourceOf a p c s.0 = record { source = s.1.source; stands = s.1.stands; generates = s.1.generates; leaf = subst (IsLeafOf a p c) (sym s.1.on) leaf } in
    (s.0, (h.each s.0).1 is, s.1)

one_least : (P : ℕ → Type 0) (m n : ℕ) → IsLeast P m → IsLeast P n → m ≡ n
one_least P m n hm hn = let low = hm.least n hn.holds in let high = hn.least m hm.holds in omega (arith, low, high)

-- least duals are one list
one_duals : (rows ds es : List ℕ) → AreLeastDuals rows ds → AreLeastDuals rows es → ds ≡ es
one_duals rows ds es hd he = same_number_lists ds es (hd.one_each ∙ sym he.one_each) each
  where
    each : (k : ℕ) → k < length ds → slice_index ds k ≡ slice_index es k
    each k less =
        let within : k < length rows = subst (λ n. k < n) hd.one_each less in
        one_least (IsDual rows k) (slice_index ds k) (slice_index es k) (hd.least k within) (he.least k within)

segment_of : ℕ → List ℕ → List ℕ → SegmentValue
segment_of cell leaves duals = record { cell = cell; leaves = leaves; duals = duals }

one_segment : (a : Netlist ℕ) (p : PlanValue) (observer : ℕ × Cell) (x y : SegmentValue) → IsSegmentOf a p observer x → IsSegmentOf a p observer y → x ≡ y
unfolding segment_of
one_segment a p observer x y hx hy =
    let cells : x.cell ≡ y.cell = hx.cell ∙ sym hy.cell in
    let leaves : x.leaves ≡ y.leaves = ascending_same x.leaves y.leaves hx.ascending hy.ascending (λ n h. (hy.each n).1 ((hx.each n).0 h)) (λ n h. (hx.each n).1 ((hy.each n).0 h)) in
    let duals : x.duals ≡ y.duals = one_duals (map (column_at p) y.leaves) x.duals y.duals (subst (λ ns. AreLeastDuals (map (column_at p) ns) x.duals) leaves hx.duals) hy.duals in
    λ i. segment_of (cells i) (leaves i) (duals i)

one_list : (a : Netlist ℕ) (p : PlanValue) (observing : List (ℕ × Cell)) (xs ys : List SegmentValue) → AllZip (IsSegmentOf a p) observing xs → AllZip (IsSegmentOf a p) observing ys → xs ≡ ys
one_list a p [] [] [] hx hy = refl
one_list a p [] [] (y ∷ ys) hx hy = absurd hy
one_list a p [] (x ∷ xs) ys hx hy = absurd hx
one_list a p (o ∷ observing) [] ys hx hy = absurd hx
one_list a p (o ∷ observing) (x ∷ xs) [] hx hy = absurd hy
one_list a p (o ∷ observing) (x ∷ xs) (y ∷ ys) hx hy = let first = one_segment a p o x y hx.0 hy.0 in let rest = one_list a p observing xs ys hx.1 hy.1 in λ i. first i ∷ rest i

valid_of : PlanValue → List SegmentValue → ValidValue
valid_of p segments = record { plan = p; segments = segments }

-- a plan has one list of segments
pub one_segments : (a : Netlist ℕ) (v w : ValidValue) → IsValidFor a v → IsValidFor a w → v.plan ≡ w.plan → v ≡ w
unfolding valid_of
one_segments a v w hv hw same =
    let segments : v.segments ≡ w.segments = one_list a w.plan (observers w.plan) v.segments w.segments (subst (λ p. AllZip (IsSegmentOf a p) (observers p) v.segments) same hv.each) hw.each in
    λ i. valid_of (same i) (segments i)
