-- The line of an observer by the numbers of its leaves' source cells.
use Rattle.std.proofs.Common.{arith, ◌≡◌, ◌≢◌, ℕ, ◌<◌, ◌≤◌, List, length, map, All, AllPairs, get_or, Bool, true, refl, sym, ap, subst, ◌∙◌, slice_get, slice_index, Some, Contains}
use Rattle.std.specs.List.Sorted.{IsPermutation, IsSorted}
use Rattle.std.specs.Ordering.{nat_cmp}
use Rattle.std.specs.Option.{option_map}
use Rattle.std.proofs.lemmas.List.{get_or-map}
use Rattle.std.proofs.lemmas.List.Elements.{All-from_recursion}
use Rattle.std.proofs.lemmas.List.Sorted.{IsPermutation-sym, IsPermutation-map, Contains-permutation, length_permutation}
use Rattle.std.proofs.lemmas.Option.{slice_get-map, slice_get-get_or, get_or_from_slice_get}
use Rattle.bb_base.proofs.Lists.{get_map, map_twice, length_map}
use Rattle.bb_base.proofs.Contained.{to_all, map_on, contains_map, place_of, contains_at}
use Rattle.bb_base.specs.Net.{Netlist, driven}
use Rattle.bb_terms.specs.Paths.{Start, IsLeaf}
use Rattle.bb_segment.proofs.SetLemmas.{sorted_up, up_apart}
use Rattle.bb_terms.specs.declared.plan.Cell.{Cell}
use Rattle.bb_terms.specs.Kinds.{is_source}
use Rattle.bb_terms.specs.Plan.{PlanValue, chain}
use Rattle.bb_terms.specs.Lines.{is_stop, IsLeafOf, column_of}
use Rattle.bb_terms.specs.Rules.{Kinds, Apart, Served, AreLeavesOf}
use Rattle.bb_terms.specs.Sources.{IsSourceAt}
use Rattle.bb_terms.specs.Valid.{column_at, IsSourceOf}
use Rattle.bb_rules.proofs.CellLemmas.{column_is}
use Rattle.bb_rules.proofs.CodeLemmas.{one_start}
use Rattle.bb_terms.proofs.StopLemmas.{source_at, leaf_within}
use Rattle.bb_plan.specs.declared.chain.Link.{Link}
use Rattle.bb_plan.specs.Answers.{MeetsTo}
use Rattle.bb_plan.specs.Layout.{IsLayout, IsObservedLine}
use Rattle.bb_plan.proofs.ChainLemmas.{at_link}

-- what an image is the image of
pub of_map : {X Y : Type 0} (f : X → Y) (xs : List X) (y : Y) → Contains (map f xs) y → (x : X) × Contains xs x × (f x ≡ y)
of_map f xs y c =
    let at = place_of (map f xs) y c in
    let h = get_map f xs at.0 y at.1 in
    (h.0, contains_at xs at.0 h.0 h.1, h.2)

-- the column of a cell, by its number
pub column_there : (p : PlanValue) (i : ℕ) (c : Cell) → slice_get (chain p) i ≡ Some c → column_at p i ≡ c.column
column_there p i c at = get_or_from_slice_get (map (λ (c : Cell). c.column) (chain p)) i c.column 0 (slice_get-map (λ (c : Cell). c.column) (chain p) i ∙ ap (option_map (λ (c : Cell). c.column)) at)

module _ (a : Netlist ℕ) (p : PlanValue) (links : List Link) (stops : List Bool) (sources : List ℕ) (before : MeetsTo a p 10) (layout : IsLayout a p links stops sources) where
  -- the table has the number of each source cell
  table_is : (net j : ℕ) → IsSourceAt p net j → slice_index sources net ≡ j
  table_is net j s =
      let l = at_link p j s.source s.stands in
      let there : slice_get links j ≡ Some l.0 = ap (λ ls. slice_get ls j) layout.chain ∙ l.1 in
      let source : is_source l.0.cell.kind ≡ true = ap (λ (c : Cell). is_source c.kind) l.2 ∙ s.generates in
      let on : l.0.cell.net ≡ net = ap (λ (c : Cell). c.net) l.2 ∙ s.on in
      subst (λ n. slice_index sources n ≡ j) on (layout.sources_are j l.0 there source)

  module _ (i : ℕ) (c : Cell) (stands : slice_get (chain p) i ≡ Some c) (leaves : List ℕ) (are : AreLeavesOf a p c leaves) where
    leaf_of : (net : ℕ) → Contains leaves net → IsLeafOf a p c net
    leaf_of net h = record { start = are.start; begins = are.begins; leaf = (are.are.each net).0 h }

    within : (net : ℕ) → Contains leaves net → net < length (driven a)
    within net h = leaf_within a p c net layout.netlist (before Kinds (omega arith) i c stands) (leaf_of net h)

    -- so leaves have entries in the table
    pub leaves_within : All (λ net. net < length sources) leaves
    leaves_within = All-from_recursion (λ net. net < length sources) leaves (to_all (λ net. net < length sources) leaves (λ net h. let inside = within net h in let long = layout.sources_long in omega (arith, inside, long)))

    -- each leaf has its source cell at the table's number
    source_there : (net : ℕ) → Contains leaves net → IsSourceAt p net (slice_index sources net)
    source_there net h =
        let leaf = leaf_of net h in
        let s = source_at a p net layout.netlist (before Served (omega arith)) (within net h) leaf.leaf.1 in
        subst (IsSourceAt p net) (sym (table_is net s.0 s.1)) s.1

    numbers : List ℕ
    numbers = map (slice_index sources) leaves

    -- leaves with one source cell are one
    one_net : (m n : ℕ) → Contains leaves m → Contains leaves n → slice_index sources m ≡ slice_index sources n → m ≡ n
    one_net m n hm hn same =
        let s = source_there m hm in
        let t = source_there n hn in
        let both : Some s.source ≡ Some t.source = sym s.stands ∙ (ap (slice_get (chain p)) same ∙ t.stands) in
        let one : s.source ≡ t.source = cc both in
        sym s.on ∙ (ap (λ (x : Cell). x.net) one ∙ t.on)

    item : (k d : ℕ) → k < length leaves → Contains leaves (get_or leaves k d)
    item k d less = contains_at leaves k (get_or leaves k d) (slice_get-get_or leaves k d less)

    apart : AllPairs (λ x y. x ≢ y) (map (slice_index sources) leaves)
    apart j k d less high same =
        let long = length_map (slice_index sources) leaves in
        let high_k : k < length leaves = omega (arith, high, long) in
        let high_j : j < length leaves = omega (arith, high, long, less) in
        let first = get_or-map (slice_index sources) leaves j d d high_j in
        let second = get_or-map (slice_index sources) leaves k d d high_k in
        let net = one_net (get_or leaves j d) (get_or leaves k d) (item j d high_j) (item k d high_k) (sym first ∙ (same ∙ second)) in
        up_apart leaves are.are.ascending j k d less high_k net

    column_same : (net : ℕ) → Contains leaves net → column_at p (slice_index sources net) ≡ column_of p net
    column_same net h =
        let s = source_there net h in
        column_there p (slice_index sources net) s.source s.stands ∙ (sym (column_is a p (slice_index sources net) s.source (before Apart (omega arith)) s.stands s.generates) ∙ ap (column_of p) s.on)

    -- the numbers in ascending order are the line
    pub line_is : (ns : List ℕ) → length leaves ≤ 16 → IsPermutation (map (slice_index sources) leaves) ns → IsSorted nat_cmp ns → IsObservedLine a p (i, c) (record { cell = i; sources = ns })
    line_is ns few moved sorted = record {
      cell = refl;
      few = (let long = length_permutation (map (slice_index sources) leaves) ns moved in let same = length_map (slice_index sources) leaves in omega (arith, few, long, same));
      ascending = sorted_up (map (slice_index sources) leaves) ns apart moved sorted;
      each = λ j. (forth j, back j);
      leaves = leaves;
      are = are;
      columns = subst (λ cs. IsPermutation cs (map (column_at p) ns)) columns_same (IsPermutation-map (column_at p) (map (slice_index sources) leaves) ns moved);
    }
      where
        columns_same : map (column_at p) (map (slice_index sources) leaves) ≡ map (column_of p) leaves
        columns_same = map_twice (column_at p) (slice_index sources) leaves ∙ map_on (λ net. column_at p (slice_index sources net)) (column_of p) leaves column_same

        forth : (j : ℕ) → Contains ns j → IsSourceOf a p c j
        forth j h =
            let m = of_map (slice_index sources) leaves j (Contains-permutation ns (map (slice_index sources) leaves) j (IsPermutation-sym (map (slice_index sources) leaves) ns moved) h) in
            let s = subst (IsSourceAt p m.0) m.2 (source_there m.0 m.1) in
            record { source = s.source; stands = s.stands; generates = s.generates; leaf = subst (IsLeafOf a p c) (sym s.on) (leaf_of m.0 m.1) }

        back : (j : ℕ) → IsSourceOf a p c j → Contains ns j
        back j s =
            let leaf = s.leaf in
            let there = subst (λ (t : Start ℕ). IsLeaf a.gates (is_stop a p) t s.source.net) (one_start a c leaf.start are.start layout.netlist leaf.begins are.begins) leaf.leaf in
            let listed = (are.are.each s.source.net).1 there in
            let number = table_is s.source.net j (record { source = s.source; stands = s.stands; generates = s.generates; on = refl }) in
            Contains-permutation (map (slice_index sources) leaves) ns j moved (subst (Contains (map (slice_index sources) leaves)) number (contains_map (slice_index sources) leaves s.source.net listed))
