-- The cells of a chosen plan: each fits its net, none meets another on it, and each net has those that it needs.
use Rattle.std.proofs.Common.{arith, ◌≡◌, ◌↔◌, ◌⊎◌, inl, inr, ℕ, ◌<◌, ◌≤◌, ◌==◌, ◌&&◌, ◌||◌, not, nat_eq, Bool, true, false, List, [], ◌∷◌, ◌++◌, length, map, refl, sym, subst, cond, Contains, count_by, slice_get, Some}
use Rattle.std.proofs.lemmas.Bool.Decides.{nat_tests}
use Rattle.std.proofs.lemmas.List.Elements.{Contains-append_left, Contains-append_right}
use Rattle.std.proofs.lemmas.List.Sorted.{Contains-permutation, sum_by-IsPermutation}
use Rattle.std.proofs.lemmas.Map.Views.{Contains-from_any}
use Rattle.std.specs.List.{AllZip, flat_map, list_any}
use Rattle.std.specs.List.Sorted.{IsPermutation}
use Rattle.bb_base.proofs.Contained.{here, there, either, none_in, to_all, at_place, contains_at, contains_map}
use Rattle.bb_base.specs.Net.{Flop, Netlist}
use Rattle.bb_terms.specs.Paths.{is_free, AtNet, IsLeaf}
use Rattle.bb_terms.specs.Cuts.{is_stop_with}
use Rattle.bb_segment.proofs.SetLemmas.{in_filter}
use Rattle.bb_terms.specs.declared.kind.Kind.{Kind}
use Rattle.bb_terms.specs.declared.kind.Kind.TheVariants.{Input, State, Split, Cut, Watch, Output}
use Rattle.bb_terms.specs.declared.plan.Cell.{Cell}
use Rattle.bb_terms.specs.Kinds.{is_source, takes_d, takes_net}
use Rattle.bb_terms.specs.Plan.{RegisterValue, PlanValue, chain}
use Rattle.bb_terms.specs.Rules.{Holds, Kinds, Apart, Served, Pure, Fits, MayStand, IsPure, HasKind, IsInput, IsQ, IsGateNet}
use Rattle.bb_terms.proofs.NetLemmas.{driven_net}
use Rattle.bb_reg.specs.Draft.{HasLeavesWith, bare_cell, those, source_cells, observer_cells}
use Rattle.bb_reg.specs.Chosen.{grouped_of}
use Rattle.bb_reg.proofs.LineLemmas.{zip_long}
use Rattle.bb_reg.proofs.OnceLemmas.{chain_once}
use Rattle.bb_reg.proofs.FitsLemmas.{cells_fit}
use Rattle.bb_reg.proofs.PureLemmas.{registers_pure}
use Rattle.bb_choose.specs.ChosenPlan.{AreCutsOf, IsChosen, IsSameCell}
use Rattle.bb_choose.proofs.SameCells.{is_on, chains_alike, all_alike, has_alike, count_alike, pure_alike}
use Rattle.bb_reg.proofs.CellLemmas.{open_outputs}
use Rattle.bb_choose.proofs.CellCounts.{counted_twice, one_source, one_of_d, one_of_net}

over : (a : Netlist ℕ) (c d : Cell) → IsSameCell c d → Fits a d → Fits a c
over a c d same fits = subst (MayStand a c.kind) (sym same.net) (subst (λ kind. MayStand a kind d.net) (sym same.kind) fits)

both : (x y : Bool) → x ≡ true → y ≡ true → (x && y) ≡ true
both true y e f = f
both false y e f = e

-- an item whose bit is 1 or 0
those_either : {X : Type 0} (bits : List Bool) (xs : List X) (x : X) → length bits ≡ length xs → Contains xs x → Contains (those bits xs) x ⊎ Contains (those (map not bits) xs) x
those_either bits [] x long h = absurd (none_in x h)
those_either [] (y ∷ xs) x long h = absurd (omega (arith, long))
those_either {X} (b ∷ bits) (y ∷ xs) x long h = by b (either y xs x h) (λ more. those_either bits xs x (omega (arith, long)) more)
  where
    by : (b : Bool) → (y ≡ x) ⊎ Contains xs x → (Contains xs x → Contains (those bits xs) x ⊎ Contains (those (map not bits) xs) x) → Contains (those (b ∷ bits) (y ∷ xs)) x ⊎ Contains (those (map not (b ∷ bits)) (y ∷ xs)) x
    by true (inl e) rest = inl (subst (Contains (y ∷ those bits xs)) e (here y (those bits xs)))
    by false (inl e) rest = inr (subst (Contains (y ∷ those (map not bits) xs)) e (here y (those (map not bits) xs)))
    by true (inr more) rest = on (rest more)
      where
        on : Contains (those bits xs) x ⊎ Contains (those (map not bits) xs) x → Contains (y ∷ those bits xs) x ⊎ Contains (those (map not bits) xs) x
        on (inl c) = inl (there y (those bits xs) x c)
        on (inr c) = inr c
    by false (inr more) rest = on (rest more)
      where
        on : Contains (those bits xs) x ⊎ Contains (those (map not bits) xs) x → Contains (those bits xs) x ⊎ Contains (y ∷ those (map not bits) xs) x
        on (inl c) = inl c
        on (inr c) = inr (there y (those (map not bits) xs) x c)

-- a net that a gate drives is not free
not_free : (a : Netlist ℕ) (net : ℕ) → IsGateNet a net → is_free a.gates net ≡ false
not_free a net driver = by (is_free a.gates net) refl
  where
    by : (b : Bool) → is_free a.gates net ≡ b → b ≡ false
    by true free = absurd (driven_net a driver.1.0 (contains_at a.gates driver.0 driver.1.0 driver.1.1) (subst (λ n. is_free a.gates n ≡ true) (sym driver.1.2) free))
    by false free = refl

module _ (a : Netlist ℕ) (cuts : List ℕ) (most : ℕ) (p : PlanValue) (are : AreCutsOf a cuts) (chosen : IsChosen a cuts most p) where
  -- the cells that the netlist needs, and those of the chosen registers
  abbrev needed : List Cell
  needed = source_cells a chosen.cells.reading ++ observer_cells a cuts chosen.cells.reading

  abbrev grouped : List Cell
  grouped = flat_map (λ (g : RegisterValue). g.cells) (grouped_of chosen.draft most).registers

  alike : AllZip IsSameCell (chain p) grouped
  alike = chains_alike p.registers (grouped_of chosen.draft most).registers chosen.registers

  moved : IsPermutation needed grouped
  moved =
      let long = zip_long (HasLeavesWith a cuts) chosen.draft.observers chosen.draft.leaves chosen.cells.leaves_are in
      subst (λ cs. IsPermutation cs grouped) (λ i. chosen.cells.sources_are i ++ chosen.cells.observers_are i) (chain_once chosen.draft most long)

  -- each cell fits
  pub kinds_held : Holds a p Kinds
  kinds_held i c at =
      at_place (Fits a) (chain p) i c (all_alike (Fits a) (over a) (chain p) grouped alike (cells_fit a cuts chosen.draft most chosen.cells (to_all (λ net. is_free a.gates net ≡ false) cuts are.driven))) at

  -- registers are pure
  pub pure_held : Holds a p Pure
  pure_held r g at = at_place IsPure p.registers r g (pure_alike p.registers (grouped_of chosen.draft most).registers chosen.registers (registers_pure a cuts chosen.draft most chosen.cells)) at

  -- two cells on one net are not both of a kind that the net needs once
  once : (test : Kind → Bool) (net : ℕ) → count_by (is_on test net) needed ≤ 1 → count_by (is_on test net) (chain p) ≤ 1
  once test net few =
      let same = count_alike test net (chain p) grouped alike in
      let back = sum_by-IsPermutation (λ c. cond {A = ℕ} (is_on test net c) 1 0) needed grouped moved in
      omega (arith, same, back, few)

  not_both : (test : Kind → Bool) → ((net : ℕ) → count_by (is_on test net) needed ≤ 1) → (i j : ℕ) (c d : Cell) → j < i → slice_get (chain p) i ≡ Some c → slice_get (chain p) j ≡ Some d → d.net ≡ c.net
      → (test d.kind && test c.kind) ≡ false
  not_both test few i j c d less at there on = by (test d.kind) refl (test c.kind) refl
    where
      by : (x : Bool) → test d.kind ≡ x → (y : Bool) → test c.kind ≡ y → (x && y) ≡ false
      by true e true f =
          let first = both (test d.kind) (d.net == c.net) e (grind (arith, nat_tests, on)) in
          let second = both (test c.kind) (c.net == c.net) f (grind (arith, nat_tests)) in
          let two = counted_twice (is_on test c.net) (chain p) j i d c less there at first second in
          absurd (omega (arith, two, once test c.net (few c.net)))
      by true e false f = refl
      by false e y f = refl

  -- no two cells meet
  pub apart_held : Holds a p Apart
  apart_held i c at j d less there on = λ k.
      not_both is_source (λ net. one_source a cuts chosen.cells.reading net are) i j c d less at there on k
      || (not_both takes_d (λ net. one_of_d a cuts chosen.cells.reading net are) i j c d less at there on k
      || not_both takes_net (λ net. one_of_net a cuts chosen.cells.reading net are) i j c d less at there on k)

  -- a needed cell stands in the plan
  has : (d : Cell) → Contains needed d → HasKind p d.kind d.net
  has d h =
      let found = has_alike (chain p) grouped d alike (Contains-permutation needed grouped d moved h) in
      record { cell = found.0; stands = found.1; of_kind = found.2.kind; on = found.2.net }

  abbrev inputs : List Cell
  inputs = map (bare_cell Input) a.inputs

  abbrev splits : List Cell
  splits = map (λ (f : Flop ℕ). bare_cell Split f.q) (those chosen.cells.reading a.flops)

  abbrev states : List Cell
  states = map (λ (f : Flop ℕ). bare_cell State f.q) (those (map not chosen.cells.reading) a.flops)

  abbrev watches : List Cell
  watches = map (λ (f : Flop ℕ). bare_cell Watch f.q) (those chosen.cells.reading a.flops)

  abbrev cut_cells : List Cell
  cut_cells = map (bare_cell Cut) cuts

  abbrev output_cells : List Cell
  output_cells = map (bare_cell Output) (open_outputs a cuts)

  input_served : (net : ℕ) → IsInput a net → HasKind p Input net
  input_served net input =
      let c = contains_map (bare_cell Input) a.inputs net (contains_at a.inputs input.0 net input.1) in
      has (bare_cell Input net) (Contains-append_left (inputs ++ splits) (states ++ (watches ++ (cut_cells ++ output_cells))) (bare_cell Input net) (Contains-append_left inputs splits (bare_cell Input net) c))

  flop_served : (net : ℕ) → IsQ a net → HasKind p State net ⊎ (HasKind p Split net × HasKind p Watch net)
  flop_served net q = subst (λ n. HasKind p State n ⊎ (HasKind p Split n × HasKind p Watch n)) q.1.2 (by (those_either chosen.cells.reading a.flops q.1.0 long (contains_at a.flops q.0 q.1.0 q.1.1)))
    where
      long : length chosen.cells.reading ≡ length a.flops
      long = zip_long (λ f b. (b ≡ true) ↔ IsLeaf a.gates (is_stop_with a.gates cuts) (AtNet f.d) f.q) a.flops chosen.cells.reading chosen.cells.self_reading

      split : Contains (those chosen.cells.reading a.flops) q.1.0 → Contains needed (bare_cell Split q.1.0.q)
      split h =
          Contains-append_left (inputs ++ splits) (states ++ (watches ++ (cut_cells ++ output_cells))) (bare_cell Split q.1.0.q)
          (Contains-append_right inputs splits (bare_cell Split q.1.0.q) (contains_map (λ (f : Flop ℕ). bare_cell Split f.q) (those chosen.cells.reading a.flops) q.1.0 h))

      watch : Contains (those chosen.cells.reading a.flops) q.1.0 → Contains needed (bare_cell Watch q.1.0.q)
      watch h =
          Contains-append_right (inputs ++ splits) (states ++ (watches ++ (cut_cells ++ output_cells))) (bare_cell Watch q.1.0.q) (Contains-append_right states (watches ++ (cut_cells ++ output_cells)) (bare_cell Watch q.1.0.q)
          (Contains-append_left watches (cut_cells ++ output_cells) (bare_cell Watch q.1.0.q) (contains_map (λ (f : Flop ℕ). bare_cell Watch f.q) (those chosen.cells.reading a.flops) q.1.0 h)))

      state : Contains (those (map not chosen.cells.reading) a.flops) q.1.0 → Contains needed (bare_cell State q.1.0.q)
      state h =
          Contains-append_right (inputs ++ splits) (states ++ (watches ++ (cut_cells ++ output_cells))) (bare_cell State q.1.0.q)
          (Contains-append_left states (watches ++ (cut_cells ++ output_cells)) (bare_cell State q.1.0.q) (contains_map (λ (f : Flop ℕ). bare_cell State f.q) (those (map not chosen.cells.reading) a.flops) q.1.0 h))

      by : Contains (those chosen.cells.reading a.flops) q.1.0 ⊎ Contains (those (map not chosen.cells.reading) a.flops) q.1.0 → HasKind p State q.1.0.q ⊎ (HasKind p Split q.1.0.q × HasKind p Watch q.1.0.q)
      by (inl h) = inr (has (bare_cell Split q.1.0.q) (split h), has (bare_cell Watch q.1.0.q) (watch h))
      by (inr h) = inl (has (bare_cell State q.1.0.q) (state h))

  output_served : (net : ℕ) → IsGateNet a net → Contains a.outputs net → HasKind p Output net ⊎ HasKind p Cut net
  output_served net driver output = by (list_any (nat_eq net) cuts) refl
    where
      behind : (d : Cell) → Contains (cut_cells ++ output_cells) d → HasKind p d.kind d.net
      behind d h =
          has d (Contains-append_right (inputs ++ splits) (states ++ (watches ++ (cut_cells ++ output_cells))) d (Contains-append_right states (watches ++ (cut_cells ++ output_cells)) d (Contains-append_right watches (cut_cells ++ output_cells) d h)))

      open_net : list_any (nat_eq net) cuts ≡ false → Contains (open_outputs a cuts) net
      open_net e = in_filter (λ n. not (is_stop_with a.gates cuts n)) a.outputs net output (λ k. not (not_free a net driver k || e k))

      by : (b : Bool) → list_any (nat_eq net) cuts ≡ b → HasKind p Output net ⊎ HasKind p Cut net
      by true e = inr (behind (bare_cell Cut net) (Contains-append_left cut_cells output_cells (bare_cell Cut net) (contains_map (bare_cell Cut) cuts net (Contains-from_any {eq = nat_eq} (λ x y k. grind (arith, nat_tests, k)) net cuts e))))
      by false e = inl (behind (bare_cell Output net) (Contains-append_right cut_cells output_cells (bare_cell Output net) (contains_map (bare_cell Output) (open_outputs a cuts) net (open_net e))))

  -- each net has the cells that it needs
  pub served_held : Holds a p Served
  served_held i net at = record { input = input_served net; flop = flop_served net; output = output_served net }
