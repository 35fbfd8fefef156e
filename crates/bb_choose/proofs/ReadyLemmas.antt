-- The chosen registers are ready to be coded: sources differ in their nets, and leaves are source nets.
use Rattle.std.proofs.Common.{arith, ◌≡◌, ◌≢◌, ◌⊎◌, inl, inr, ℕ, ◌<◌, ◌≤◌, ◌+◌, ◌&&◌, ◌||◌, Bool, true, false, List, [], ◌∷◌, length, map, filter, refl, sym, ap, subst, ◌∙◌, Contains, AllPairs, get_or, slice_get, Some, cond}
use Rattle.std.specs.List.{AllByRecursion, AllZip}
use Rattle.std.proofs.lemmas.List.Kept.{AllPairs-filter}
use Rattle.std.proofs.lemmas.Option.{slice_get-get_or}
use Rattle.bb_base.proofs.Contained.{here, there, either, none_in, of_all, to_all, place_of, contains_at, contains_map}
use Rattle.bb_base.proofs.Lists.{length_map, get_map as back_map}
use Rattle.bb_base.specs.Net.{Netlist, driven, IsNetlist}
use Rattle.bb_terms.specs.Paths.{IsLeaf}
use Rattle.bb_terms.specs.declared.kind.Kind.{Kind}
use Rattle.bb_terms.specs.declared.kind.Kind.TheVariants.{Input, State, Split, Cut, Watch, Output}
use Rattle.bb_terms.specs.declared.plan.Cell.{Cell}
use Rattle.bb_terms.specs.Kinds.{is_source, takes_d, takes_net}
use Rattle.bb_terms.specs.Plan.{RegisterValue, PlanValue, chain}
use Rattle.bb_terms.specs.Lines.{is_stop, IsLeafOf}
use Rattle.bb_terms.specs.Rules.{Holds, Apart, MayStand, meet}
use Rattle.bb_terms.proofs.NetLemmas.{out_within, q_within, input_net_within}
use Rattle.bb_terms.proofs.StopLemmas.{leaf_within, source_at}
use Rattle.bb_reg.specs.Draft.{DraftValue, AreCells, bare_cell}
use Rattle.bb_reg.specs.Chosen.{grouped_of, scheduled_of}
use Rattle.bb_reg.proofs.SeenLemmas.{get_map}
use Rattle.bb_reg.proofs.ApartLemmas.{register_counts}
use Rattle.bb_reg.proofs.GroupedLemmas.{chain_long, leaves_each, few_registers}
use Rattle.bb_choose.specs.ChosenPlan.{AreCutsOf, IsChosen, IsSameCell, IsSameRegister}
use Rattle.bb_choose.proofs.AlikeLemmas.{zip_back}
use Rattle.bb_choose.proofs.CellRules.{apart_held, kinds_held, served_held}
use Rattle.bb_choose.proofs.StopLemmas.{stops_same}
use Rattle.bb_choose.specs.Arranged.{source_nets, sources_of_chain}
use Rattle.bb_choose.specs.Coding.{AreLeafNets, CanTakeColumns}
use Rattle.bb_choose.proofs.LinedLemmas.{IsLined, chain_lined}

-- the items that pass
pub in_filtered : {X : Type 0} (p : X → Bool) (xs : List X) (n : X) → Contains xs n → p n ≡ true → Contains (filter p xs) n
in_filtered p [] n h e = absurd (none_in n h)
in_filtered {X} p (x ∷ xs) n h e = by (p x) refl (either x xs n h) (λ c. in_filtered p xs n c e)
  where
    by : (b : Bool) → p x ≡ b → (x ≡ n) ⊎ Contains xs n → (Contains xs n → Contains (filter p xs) n) → Contains (cond b (x ∷ filter p xs) (filter p xs)) n
    by true f (inl s) rest = subst (Contains (x ∷ filter p xs)) s (here x (filter p xs))
    by true f (inr c) rest = there x (filter p xs) n (rest c)
    by false f (inl s) rest = let g = ap p s in absurd (cc (e, f, g))
    by false f (inr c) rest = rest c

pub of_filtered : {X : Type 0} (p : X → Bool) (xs : List X) (n : X) → Contains (filter p xs) n → Contains xs n × (p n ≡ true)
of_filtered p [] n h = absurd (none_in n h)
of_filtered {X} p (x ∷ xs) n h = by (p x) refl h (λ c. of_filtered p xs n c)
  where
    at : p x ≡ true → (x ≡ n) ⊎ Contains (filter p xs) n → (Contains (filter p xs) n → Contains xs n × (p n ≡ true)) → Contains (x ∷ xs) n × (p n ≡ true)
    at f (inl s) rest = (subst (Contains (x ∷ xs)) s (here x xs), subst (λ k. p k ≡ true) s f)
    at f (inr c) rest = let r = rest c in (there x xs n r.0, r.1)

    by : (b : Bool) → p x ≡ b → Contains (cond b (x ∷ filter p xs) (filter p xs)) n → (Contains (filter p xs) n → Contains xs n × (p n ≡ true)) → Contains (x ∷ xs) n × (p n ≡ true)
    by true f c rest = at f (either x (filter p xs) n c) rest
    by false f c rest = let r = rest c in (there x xs n r.0, r.1)

-- registers are alike with themselves
same_cells : (cells : List Cell) → AllZip IsSameCell cells cells
same_cells [] = tt
same_cells (c ∷ cells) = (record { kind = refl; net = refl }, same_cells cells)

same_registers : (registers : List RegisterValue) → AllZip IsSameRegister registers registers
same_registers [] = tt
same_registers (g ∷ registers) = (same_cells g.cells, same_registers registers)

-- a net on which a cell may stand is one of the netlist's
pub fits_within : (a : Netlist ℕ) (kind : Kind) (net : ℕ) → IsNetlist a → MayStand a kind net → net < length (driven a)
fits_within a Input net is h = input_net_within a net is h
fits_within a State net is h = subst (λ n. n < length (driven a)) h.1.2 (q_within a h.1.0 is (contains_at a.flops h.0 h.1.0 h.1.1))
fits_within a Split net is h = subst (λ n. n < length (driven a)) h.1.2 (q_within a h.1.0 is (contains_at a.flops h.0 h.1.0 h.1.1))
fits_within a Cut net is h = subst (λ n. n < length (driven a)) h.1.2 (out_within a h.1.0 is (contains_at a.gates h.0 h.1.0 h.1.1))
fits_within a Watch net is h = subst (λ n. n < length (driven a)) h.1.2 (q_within a h.1.0 is (contains_at a.flops h.0 h.1.0 h.1.1))
fits_within a Output net is h = subst (λ n. n < length (driven a)) h.0.1.2 (out_within a h.0.1.0 is (contains_at a.gates h.0.0 h.0.1.0 h.0.1.1))

-- two sources differ in their nets
AreApart : Cell → Cell → Type 0
AreApart c d = is_source c.kind ≡ true → is_source d.kind ≡ true → c.net ≢ d.net

met : (a b x : Bool) → a ≡ true → b ≡ true → ((a && b) || x) ≡ true
met true true x e f = refl
met true false x e f = absurd (cc f)
met false b x e f = absurd (cc e)

pub nets_apart : (a : Netlist ℕ) (p : PlanValue) → Holds a p Apart → AllPairs (λ x y. x ≢ y) (source_nets p.registers)
unfolding AreApart
nets_apart a p apart = λ i j d less small same.
    let sources = sources_of_chain p.registers in
    let long : length (map (λ (c : Cell). c.net) sources) ≡ length sources = length_map (λ (c : Cell). c.net) sources in
    let high : j < length sources = omega (arith, small, long) in
    let low : i < length sources = omega (arith, less, high) in
    let e = bare_cell Input d in
    let one = get_map (λ (c : Cell). c.net) sources i e in
    let other = get_map (λ (c : Cell). c.net) sources j e in
    let first = of_filtered (λ (c : Cell). is_source c.kind) (chain p) (get_or sources i e) (contains_at sources i (get_or sources i e) (slice_get-get_or sources i e low)) in
    let second = of_filtered (λ (c : Cell). is_source c.kind) (chain p) (get_or sources j e) (contains_at sources j (get_or sources j e) (slice_get-get_or sources j e high)) in
    AllPairs-filter AreApart (λ (c : Cell). is_source c.kind) (chain p) pairs i j e less high first.1 second.1 (sym one ∙ (same ∙ other))
  where
    pairs : AllPairs AreApart (chain p)
    pairs i j d less small source other same =
        let c = get_or (chain p) i d in
        let e = get_or (chain p) j d in
        let no : meet c.kind e.kind ≡ false = apart j e (slice_get-get_or (chain p) j d small) i c less (slice_get-get_or (chain p) i d (omega (arith, less, small))) same in
        let yes = met (is_source c.kind) (is_source e.kind) ((takes_d c.kind && takes_d e.kind) || (takes_net c.kind && takes_net e.kind)) source other in
        let never : true ≡ false = sym yes ∙ no in
        absurd (cc never)

module _ (a : Netlist ℕ) (cuts : List ℕ) (draft : DraftValue) (most : ℕ) (cuts_are : AreCutsOf a cuts) (are : AreCells a cuts draft) where
  -- a plan without columns
  pub bare_plan : PlanValue
  bare_plan = record { width = 0; degree = 0; mask = 0; registers = (grouped_of draft most).registers; sessions = scheduled_of (grouped_of draft most) }

  bare_chosen : IsChosen a cuts most bare_plan
  unfolding bare_plan
  bare_chosen = record { draft = draft; cells = are; registers = same_registers (grouped_of draft most).registers; sessions = refl }

  abbrev nets : List ℕ
  nets = source_nets (grouped_of draft most).registers

  pub ready_apart : AllPairs (λ x y. x ≢ y) nets
  unfolding bare_plan
  ready_apart = nets_apart a bare_plan (apart_held a cuts most bare_plan cuts_are bare_chosen)

  pub ready_within : AllByRecursion (λ net. net < length (driven a)) nets
  unfolding bare_plan
  ready_within = to_all (λ net. net < length (driven a)) nets within
    where
      within : (net : ℕ) → Contains nets net → net < length (driven a)
      within net h =
          let at = place_of nets net h in
          let c = back_map (λ (c : Cell). c.net) (sources_of_chain (grouped_of draft most).registers) at.0 net at.1 in
          let stands = of_filtered (λ (c : Cell). is_source c.kind) (chain bare_plan) c.0 (contains_at (sources_of_chain (grouped_of draft most).registers) at.0 c.0 c.1) in
          let place = place_of (chain bare_plan) c.0 stands.0 in
          subst (λ n. n < length (driven a)) c.2 (fits_within a c.0.kind c.0.net cuts_are.netlist (kinds_held a cuts most bare_plan cuts_are bare_chosen place.0 c.0 place.1))

  leaf_nets : (c : Cell) (i : ℕ) (leaves : List ℕ) → slice_get (chain bare_plan) i ≡ Some c → IsLined a cuts c leaves → AreLeafNets nets leaves
  unfolding bare_plan
  leaf_nets c i leaves at (inl bare) = subst (AreLeafNets nets) (sym bare.1) (record { ascending = λ k less. absurd (omega (arith, less)); sources = tt })
  leaf_nets c i leaves at (inr h) = record { ascending = h.are.ascending; sources = to_all (Contains nets) leaves one }
    where
      one : (net : ℕ) → Contains leaves net → Contains nets net
      one net k =
          let kinds = kinds_held a cuts most bare_plan cuts_are bare_chosen in
          let stop = stops_same a cuts most bare_plan bare_chosen in
          let leaf : IsLeaf a.gates (is_stop a bare_plan) h.start net = subst (λ s. IsLeaf a.gates s h.start net) (λ k net. sym (stop net) k) ((h.are.each net).0 k) in
          let is : IsLeafOf a bare_plan c net = record { start = h.start; begins = h.begins; leaf = leaf } in
          let source = source_at a bare_plan net cuts_are.netlist (served_held a cuts most bare_plan cuts_are bare_chosen) (leaf_within a bare_plan c net cuts_are.netlist (kinds i c at) is) leaf.1 in
          subst (Contains nets) source.1.on (contains_map (λ (c : Cell). c.net) (sources_of_chain (grouped_of draft most).registers) source.1.source
          (in_filtered (λ (c : Cell). is_source c.kind) (chain bare_plan) source.1.source (contains_at (chain bare_plan) source.0 source.1.source source.1.stands) source.1.generates))

  pub ready_leaves : AllByRecursion (AreLeafNets nets) (grouped_of draft most).leaves
  unfolding bare_plan
  ready_leaves = to_all (AreLeafNets nets) (grouped_of draft most).leaves each
    where
      each : (leaves : List ℕ) → Contains (grouped_of draft most).leaves leaves → AreLeafNets nets leaves
      each leaves h =
          let at = place_of (grouped_of draft most).leaves leaves h in
          let c = zip_back (IsLined a cuts) (chain bare_plan) (grouped_of draft most).leaves at.0 leaves (chain_lined a cuts draft most cuts_are are) at.1 in
          leaf_nets c.0 at.0 leaves c.1 c.2

  -- they are ready
  pub ready : length draft.leaves ≡ length draft.observers → length draft.sources + length draft.observers ≤ 4194304 → 1 ≤ most → most ≤ 16 → CanTakeColumns (length (driven a)) (grouped_of draft most)
  ready long few some room = record {
    apart = ready_apart;
    within = ready_within;
    leaves = ready_leaves;
    one_each = leaves_each draft most long;
    some = counts (λ g. 1 ≤ length g.cells) (λ g h. h.0);
    few = counts (λ g. length g.cells ≤ 16) (λ g h. let high = h.1 in omega (arith, high, room));
    cells_few = let total = chain_long draft most long in omega (arith, total, few);
    registers_few = let total = few_registers draft most some long in omega (arith, total, few);
  }
    where
      counts : (P : RegisterValue → Type 0) → ((g : RegisterValue) → (1 ≤ length g.cells) × (length g.cells ≤ most) → P g) → AllByRecursion P (grouped_of draft most).registers
      counts P f =
          let registers = (grouped_of draft most).registers in
          to_all P registers (λ g h. f g (of_all (λ (g : RegisterValue). (1 ≤ length g.cells) × (length g.cells ≤ most)) registers g (register_counts draft most some) h))
