use Rattle.std.proofs.Common.{◌≡◌, ◌<◌, ℕ, List, [], ◌∷◌, ◌++◌, false, eqb, get_or, sym, subst, arith}
use Rattle.std.specs.List.{All, AllByRecursion, IsDistinct}
use Rattle.std.proofs.lemmas.List.Elements.{recursion_from_All}
use Rattle.std.proofs.lemmas.Map.Keys.{IsDistinct-cons, IsDistinct-head, IsDistinct-tail}
use Rattle.bb_base.proofs.Lists.{all_join}
use Rattle.bb_code.specs.Segments.{IsSegment}
use Rattle.bb_planning_tests.proofs.columns.segment_of.Goals as goal

none : IsDistinct eqb []
unfolding IsDistinct
none = tt

-- a list of distinct sources with one that it doesn't have
distinct_push : (xs : List ℕ) (y : ℕ) → IsDistinct eqb xs → AllByRecursion (λ x. eqb x y ≡ false) xs → IsDistinct eqb (xs ++ y ∷ [])
distinct_push [] y h new = IsDistinct-cons eqb y [] tt none
distinct_push (x ∷ xs) y h new = IsDistinct-cons eqb x (xs ++ y ∷ []) (all_join (λ z. eqb x z ≡ false) xs (y ∷ []) (IsDistinct-head eqb x xs h) (new.0, tt)) (distinct_push xs y (IsDistinct-tail eqb x xs h) new.1)

segment_push : (sources : ℕ) (segment : List ℕ) (y : ℕ) → IsSegment sources segment → y < sources → All (λ x. eqb x y ≡ false) segment → IsSegment sources (segment ++ y ∷ [])
segment_push sources segment y h lt new = record {
  below = all_join (λ source. source < sources) segment (y ∷ []) h.below (lt, tt);
  distinct = distinct_push segment y h.distinct (recursion_from_All (λ x. eqb x y ≡ false) segment new);
}

pub loop-source-init : goal.loop-source-init
loop-source-init g c = subst (IsSegment c.args.sources) (sym c.new-segment.ensures) (record { below = tt; distinct = none })

pub loop-source-preserved : goal.loop-source-preserved
loop-source-preserved g c =
    let segment = c.loop-source.segment.items in
    let source = get_or c.args.list.now c.loop-source.source-index 0 in
    let new = subst (All (λ x. eqb x source ≡ false)) c.as_slice.ensures.value (λ k d lt. c.if-contains.ensures.cases k d (omega arith) lt) in
    subst (IsSegment c.args.sources) (sym c.push.ensures.items) (segment_push c.args.sources segment source c.loop-source.invariant c.if-source-sources.false new)
