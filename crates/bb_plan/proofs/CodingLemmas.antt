-- Lines with duals are segments, and the first line whose columns are dependent is that of the first observer which isn't coded.
use Rattle.std.proofs.Common.{arith, ◌≡◌, ℕ, ◌+◌, List, [], ◌∷◌, map, sym, ap, subst, ◌∙◌, slice_get, Contains}
use Rattle.std.specs.List.{AllZip}
use Rattle.std.specs.List.Sorted.{IsStrictlyIncreasing}
use Rattle.std.proofs.lemmas.List.Sorted.{IsPermutation-sym}
use Rattle.bb_base.specs.Places.{EachAt}
use Rattle.bb_base.specs.Net.{Netlist, IsNetlist}
use Rattle.bb_base.specs.Span.{IsIndependent}
use Rattle.bb_base.specs.Dual.{AreLeastDuals}
use Rattle.bb_terms.specs.declared.plan.Cell.{Cell}
use Rattle.bb_terms.specs.Plan.{PlanValue, chain, observers}
use Rattle.bb_terms.specs.Lines.{column_of}
use Rattle.bb_terms.specs.Rules.{Codes, Holds, FailsAt, IsCoded}
use Rattle.bb_terms.specs.Valid.{SegmentValue, column_at, IsSegmentOf}
use Rattle.bb_plan.specs.declared.chain.Link.{Link}
use Rattle.bb_plan.specs.Chain.{links_from, column_of_cell}
use Rattle.bb_plan.specs.Layout.{LineValue, IsObservedLine}
use Rattle.bb_plan.specs.Coded.{IsCodedLine, IsIndependentLine, IsFirstDependent}
use Rattle.bb_plan.proofs.ChainLemmas.{columns_agree}
use Rattle.bb_plan.proofs.IndependentLemmas.{independent_moved}
use Rattle.bb_plan.proofs.ObserverLemmas.{observer_is, is_observer_at, before_observer, zip_left, zip_right}
use Rattle.bb_plan.proofs.StartLemmas.{one_list}

zip_through : {X Y Z : Type 0} (R : X → Y → Type 0) (S : Y → Z → Type 0) (T : X → Z → Type 0) → ((x : X) (y : Y) (z : Z) → R x y → S y z → T x z) → (xs : List X) (ys : List Y) (zs : List Z) → AllZip R xs ys → AllZip S ys zs → AllZip T xs zs
zip_through R S T f [] [] [] h k = tt
zip_through R S T f [] [] (z ∷ zs) h k = absurd k
zip_through R S T f [] (y ∷ ys) zs h k = absurd h
zip_through R S T f (x ∷ xs) [] zs h k = absurd h
zip_through R S T f (x ∷ xs) (y ∷ ys) [] h k = absurd k
zip_through R S T f (x ∷ xs) (y ∷ ys) (z ∷ zs) h k = (f x y z h.0 k.0, zip_through R S T f xs ys zs h.1 k.1)

module _ (a : Netlist ℕ) (p : PlanValue) (links : List Link) (lines : List LineValue) (chain_is : links ≡ links_from 0 p.registers) (zipped : AllZip (IsObservedLine a p) (observers p) lines) where
  columns_same : column_of_cell links ≡ column_at p
  columns_same = ap column_of_cell chain_is ∙ (λ i n. columns_agree p n i)

  -- a line with its duals is the observer's segment
  segment_is : (o : ℕ × Cell) (line : LineValue) (segment : SegmentValue) → IsObservedLine a p o line → IsCodedLine links line segment → IsSegmentOf a p o segment
  segment_is o line segment is coded = record {
    cell = coded.cell ∙ is.cell;
    ascending = subst IsStrictlyIncreasing (sym coded.leaves) is.ascending;
    each = λ i. (
      λ c. (is.each i).0 (subst (λ (xs : List ℕ). Contains xs i) coded.leaves c),
      λ s. subst (λ (xs : List ℕ). Contains xs i) (sym coded.leaves) ((is.each i).1 s),
    );
    duals = subst (λ (cs : List ℕ). AreLeastDuals cs segment.duals) ((λ i. map (columns_same i) line.sources) ∙ ap (map (column_at p)) (sym coded.leaves)) coded.duals;
  }

  pub segments_are : (segments : List SegmentValue) → AllZip (IsCodedLine links) lines segments → AllZip (IsSegmentOf a p) (observers p) segments
  segments_are segments coded = zip_through (IsObservedLine a p) (IsCodedLine links) (IsSegmentOf a p) segment_is (observers p) lines segments zipped coded

  -- an observer with a line whose columns are independent is coded
  coded_by : (o : ℕ × Cell) (line : LineValue) (k : ℕ) → IsObservedLine a p o line → IsIndependentLine links k line → IsCoded a p o.1
  coded_by o line k is free observer =
      let columns : IsIndependent (map (column_at p) line.sources) = subst IsIndependent (λ i. map (columns_same i) line.sources) free in
      (is.leaves, is.are, independent_moved (map (column_at p) line.sources) (map (column_of p) is.leaves) (IsPermutation-sym (map (column_of p) is.leaves) (map (column_at p) line.sources) is.columns) columns)

  pub codes_hold : EachAt lines (IsIndependentLine links) → Holds a p Codes
  codes_hold free i c at observer =
      let k = is_observer_at 0 (chain p) i c at observer in
      let line = zip_left (IsObservedLine a p) (observers p) lines zipped k.0 (0 + i, c) k.1 in
      coded_by (0 + i, c) line.0 k.0 line.2 (free k.0 line.0 line.1) observer

  pub first_dependent : IsNetlist a → (place : ℕ) → IsFirstDependent links lines place → FailsAt a p Codes place
  first_dependent netlist place h =
      let first = h.first in
      let o = zip_right (IsObservedLine a p) (observers p) lines zipped h.place first.item first.stands in
      let is = observer_is 0 (chain p) h.place o.0.0 o.0.1 o.1 in
      let same : is.place ≡ place = (let e = is.number in let f = o.2.cell in let g = h.cell_is in omega (arith, e, f, g)) in
      let number : place ≡ o.0.0 = (let f = o.2.cell in let g = h.cell_is in omega (arith, f, g)) in
      record {
        item = o.0.1;
        stands = ap (slice_get (chain p)) (sym same) ∙ is.stands;
        wrong = λ coded.
            let c = coded is.observes in
            let leaves = one_list a netlist p o.0.1 c.0 o.2.leaves c.1 o.2.are in
            let free = independent_moved (map (column_of p) o.2.leaves) (map (column_at p) first.item.sources) o.2.columns (subst (λ (xs : List ℕ). IsIndependent (map (column_of p) xs)) leaves c.2) in
            first.wrong (subst IsIndependent (λ i. map (sym columns_same i) first.item.sources) free);
        before = λ i c less at observer.
            let k = before_observer 0 (chain p) h.place o.0.0 i o.0.1 c o.1 at observer (omega (arith, less, number)) in
            let line = zip_left (IsObservedLine a p) (observers p) lines zipped k.0 (0 + i, c) k.2 in
            coded_by (0 + i, c) line.0 k.0 line.2 (first.before k.0 line.0 k.1 line.1) observer;
      }
