-- A segment of a valid plan has no more leaves than its line, since no two source cells are on one net.
use Rattle.std.proofs.Common.{arith, ◌≡◌, ◌≢◌, ◌∙◌, ℕ, ◌<◌, ◌≤◌, List, [], ◌∷◌, length, get_or, Some, slice_get, Contains, AllPairs, true, refl, sym, ap, subst}
use Rattle.std.proofs.lemmas.Option.{slice_get_within}
use Rattle.std.proofs.lemmas.Slice.Zip.{AllZip-long}
use Rattle.std.specs.List.{AllByRecursion, AllZip}
use Rattle.bb_base.proofs.Contained.{here, there, place_of}
use Rattle.bb_base.proofs.Distinct.{few_distinct}
use Rattle.bb_base.specs.Net.{Netlist, IsNetlist}
use Rattle.bb_segment.proofs.SetLemmas.{up_apart}
use Rattle.bb_terms.specs.Paths.{IsLeaf}
use Rattle.bb_terms.specs.declared.plan.Cell.{Cell}
use Rattle.bb_terms.specs.Kinds.{is_observer}
use Rattle.bb_terms.specs.Lines.{is_stop}
use Rattle.bb_terms.specs.Plan.{PlanValue, chain}
use Rattle.bb_terms.specs.Rules.{Frame, Apart, Widths, AreLeavesOf}
use Rattle.bb_terms.specs.Sources.{IsSourceAt}
use Rattle.bb_terms.specs.Valid.{IsValidPlan, SegmentValue, IsSourceOf, IsSegmentOf}
use Rattle.bb_rules.proofs.CodeLemmas.{one_start}
use Rattle.bb_rules.proofs.SourceLemmas.{one_source}
use Rattle.bb_passing.proofs.Places.{zip_at}

module _ (a : Netlist ℕ) (p : PlanValue) (is : IsNetlist a) (valid : IsValidPlan a p) (nets : List ℕ) where
  -- a source cell's net stands at a place of the list
  record IsPlaced (cell place : ℕ) : Type 0 where
    net : ℕ
    source : IsSourceAt p net cell
    stands : slice_get nets place ≡ Some net

  -- two cells at one place are one
  one_cell : (x y k m : ℕ) → IsPlaced x k → IsPlaced y m → k ≡ m → x ≡ y
  one_cell x y k m hx hy same =
      let both : Some hx.net ≡ Some hy.net = sym hx.stands ∙ ap (slice_get nets) same ∙ hy.stands in
      let net : hx.net ≡ hy.net = cc both in
      one_source a p hy.net x y (valid.meets Apart) (subst (λ n. IsSourceAt p n x) net hx.source) hy.source

  places_apart : (cells places : List ℕ) → AllPairs (λ x y. x ≢ y) cells → AllZip IsPlaced cells places → AllPairs (λ k m. k ≢ m) places
  places_apart cells places apart placed i j d less within same =
      let long : length places ≡ length cells = AllZip-long IsPlaced cells places placed in
      apart i j d less (omega (arith, within, long))
      (one_cell (get_or cells i d) (get_or cells j d) (get_or places i d) (get_or places j d) (zip_at IsPlaced cells places i d d placed (omega (arith, less, within))) (zip_at IsPlaced cells places j d d placed within) same)

  places_within : (cells places : List ℕ) → AllZip IsPlaced cells places → AllByRecursion (λ k. k < length nets) places
  places_within [] [] h = tt
  places_within [] (k ∷ places) h = absurd h
  places_within (x ∷ cells) [] h = absurd h
  places_within (x ∷ cells) (k ∷ places) h = (slice_get_within nets k h.0.net h.0.stands, places_within cells places h.1)

  all_placed : (cells : List ℕ) → ((x : ℕ) → Contains cells x → (k : ℕ) × IsPlaced x k) → (places : List ℕ) × AllZip IsPlaced cells places
  all_placed [] h = ([], tt)
  all_placed (x ∷ cells) h =
      let first = h x (here x cells) in
      let rest = all_placed cells (λ y c. h y (there x cells y c)) in
      (first.0 ∷ rest.0, (first.1, rest.1))

  no_more : (cells : List ℕ) → AllPairs (λ x y. x ≢ y) cells → ((x : ℕ) → Contains cells x → (k : ℕ) × IsPlaced x k) → length cells ≤ length nets
  no_more cells apart each =
      let placed = all_placed cells each in
      let long : length placed.0 ≡ length cells = AllZip-long IsPlaced cells placed.0 placed.1 in
      let few = few_distinct placed.0 (length nets) (places_apart cells placed.0 apart placed.1) (places_within cells placed.0 placed.1) in
      omega (arith, long, few)

-- at most twelve, as the width allows
pub few_leaves : (a : Netlist ℕ) (p : PlanValue) → IsNetlist a → IsValidPlan a p → (i : ℕ) (c : Cell) (segment : SegmentValue) → slice_get (chain p) i ≡ Some c → is_observer c.kind ≡ true → IsSegmentOf a p (i, c) segment
    → length segment.leaves ≤ 12
few_leaves a p is valid i c segment at observer segment_is =
    let narrow = valid.meets Widths i c at observer in
    let line : AreLeavesOf a p c narrow.0 = narrow.1 in
    let most = narrow.2 in
    let width = (valid.meets Frame).width_most in
    let few : length segment.leaves ≤ length narrow.0 = no_more a p is valid narrow.0 segment.leaves (up_apart segment.leaves segment_is.ascending) (placed line) in
    omega (arith, few, most, width)
  where
    placed : {nets : List ℕ} → AreLeavesOf a p c nets → (x : ℕ) → Contains segment.leaves x → (k : ℕ) × IsPlaced a p is valid nets x k
    placed {nets} line x c_in =
        let found : IsSourceOf a p c x = (segment_is.each x).0 c_in in
        let start = one_start a c found.leaf.start line.start is found.leaf.begins line.begins in
        let leaf : IsLeaf a.gates (is_stop a p) line.start found.source.net = subst (λ s. IsLeaf a.gates (is_stop a p) s found.source.net) start found.leaf.leaf in
        let place = place_of nets found.source.net ((line.are.each found.source.net).1 leaf) in
        (place.0, record { net = found.source.net; source = record { source = found.source; stands = found.stands; generates = found.generates; on = refl }; stands = place.1 })
