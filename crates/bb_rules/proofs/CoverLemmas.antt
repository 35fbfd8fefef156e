-- Each gate that matters lies in the segment of an observer.
use Rattle.std.proofs.Common.{◌≡◌, ◌⊎◌, inl, inr, ℕ, ◌<◌, ◌||◌, Bool, true, false, List, [], ◌∷◌, length, map, refl, sym, ap, subst, ◌∙◌, Contains}
use Rattle.std.proofs.lemmas.List.Elements.{Contains-append_cases}
use Rattle.bb_base.specs.Net.{Gate, Flop, Netlist, driven, IsNetlist}
use Rattle.bb_base.proofs.Contained.{here, contains_at, place_of}
use Rattle.bb_base.proofs.Lists.{get_map}
use Rattle.bb_terms.specs.Paths.{Start, AtNet, Behind, starts, is_free, IsPathBack, IsReached, LiesIn, LiesBehind}
use Rattle.bb_terms.proofs.PathLemmas.{reached_more, reached_here}
use Rattle.bb_terms.specs.declared.kind.Kind.{Kind}
use Rattle.bb_terms.specs.declared.kind.Kind.TheVariants.{Cut, Output}
use Rattle.bb_terms.specs.declared.plan.Cell.{Cell}
use Rattle.bb_terms.specs.Kinds.{is_observer, takes_d, takes_net}
use Rattle.bb_terms.specs.Plan.{PlanValue, chain}
use Rattle.bb_terms.specs.Lines.{is_stop, IsStart}
use Rattle.bb_terms.specs.Rules.{Served, Holds, HasKind, IsGateNet}
use Rattle.bb_rules.specs.Covered.{IsUsed, IsCovered}
use Rattle.bb_terms.proofs.NetLemmas.{driven_net, gate_net, out_within}
use Rattle.bb_terms.proofs.ServedLemmas.{served_at}
use Rattle.bb_terms.proofs.StopLemmas.{stop_cases, starts_as, takes_its_d}

-- an observer whose walk starts there
record Observes (a : Netlist ℕ) (p : PlanValue) (start : Start ℕ) : Type 0 where
  cell : Cell
  stands : Contains (chain p) cell
  observes : is_observer cell.kind ≡ true
  begins : IsStart a cell start

-- an item of a map is the image of one
of_map : {X Y : Type 0} (f : X → Y) (xs : List X) (y : Y) → Contains (map f xs) y → (x : X) × Contains xs x × (f x ≡ y)
of_map f xs y h =
    let at = place_of (map f xs) y h in
    let from = get_map f xs at.0 y at.1 in
    (from.0, contains_at xs at.0 from.0 from.1, from.2)

lies_in : (a : Netlist ℕ) (p : PlanValue) (start : Start ℕ) (g : Gate ℕ) → LiesBehind a.gates (is_stop a p) start g → LiesIn a.gates (is_stop a p) start g
lies_in a p (AtNet net) g h = h
lies_in a p (Behind own) g h = inr h

takes_observes : (kind : Kind) → takes_d kind ≡ true → is_observer kind ≡ true
takes_observes kind h = ap (λ b. b || takes_net kind) h

module _ (a : Netlist ℕ) (p : PlanValue) (g : Gate ℕ) (fits : IsNetlist a) (served : Holds a p Served) (gate_stands : Contains a.gates g) where
  covered : (start : Start ℕ) → Observes a p start → LiesIn a.gates (is_stop a p) start g → IsCovered a p g
  covered start o lies = record { cell = o.cell; stands = o.stands; observes = o.observes; start = start; begins = o.begins; lies = lies }

  -- a cut net's own gate is observed
  cut_observed : (net : ℕ) (h : Gate ℕ) → Contains a.gates h → h.out ≡ net → is_stop a p net ≡ true → Observes a p (Behind h)
  cut_observed net h c out stops = by (stop_cases a p net stops)
    where
      by : (is_free a.gates net ≡ true) ⊎ HasKind p Cut net → Observes a p (Behind h)
      by (inl free) = absurd (driven_net a h c (ap (is_free a.gates) out ∙ free))
      by (inr k) = record { cell = k.cell; stands = k.stands; observes = ap is_observer k.of_kind; begins = starts_as a p Cut net (Behind h) k (h, c, out, refl) }

  -- a path from what an observer's walk reaches ends in that segment or in that of a cut on the way
  follow : (path : List ℕ) (net : ℕ) (start : Start ℕ) → Observes a p start → IsReached a.gates (is_stop a p) (starts start) net → IsPathBack a.gates (λ net. false) net path g.out → IsCovered a p g
  follow [] net start o reached h = by (is_stop a p net) refl
    where
      by : (b : Bool) → is_stop a p net ≡ b → IsCovered a p g
      by true stops = covered (Behind g) (cut_observed net g gate_stands (sym h) stops) (inl refl)
      by false passed = covered start o (lies_in a p start g (subst (λ n. IsReached a.gates (is_stop a p) (starts start) n × (is_stop a p n ≡ false)) h (reached, passed)))
  follow (next ∷ path) net start o reached h = by (is_stop a p net) refl (λ start o reached. follow path next start o reached h.2)
    where
      by : (b : Bool) → is_stop a p net ≡ b → ((start : Start ℕ) → Observes a p start → IsReached a.gates (is_stop a p) (starts start) next → IsCovered a p g) → IsCovered a p g
      by true stops rest = rest (Behind h.1.gate) (cut_observed net h.1.gate h.1.stands h.1.drives stops) (reached_here a.gates (is_stop a p) h.1.gate.ins next h.1.reads)
      by false passed rest = rest start o (reached_more a.gates (is_stop a p) (starts start) net next reached passed h.1)

  -- an output's gate is observed
  output_observed : (net : ℕ) (h : Gate ℕ) → Contains a.outputs net → Contains a.gates h → h.out ≡ net → Observes a p (Behind h)
  output_observed net h listed c out = by ((served_at a p net served (subst (λ n. n < length (driven a)) out (out_within a h fits c))).output (subst (IsGateNet a) out (gate_net a h c)) listed)
    where
      by : HasKind p Output net ⊎ HasKind p Cut net → Observes a p (Behind h)
      by (inl k) = record { cell = k.cell; stands = k.stands; observes = ap is_observer k.of_kind; begins = starts_as a p Output net (Behind h) k (h, c, out, refl) }
      by (inr k) = record { cell = k.cell; stands = k.stands; observes = ap is_observer k.of_kind; begins = starts_as a p Cut net (Behind h) k (h, c, out, refl) }

  from_output : (net : ℕ) (path : List ℕ) → Contains a.outputs net → IsPathBack a.gates (λ net. false) net path g.out → IsCovered a p g
  from_output net [] listed h = covered (Behind g) (output_observed net g listed gate_stands (sym h)) (inl refl)
  from_output net (next ∷ path) listed h =
      follow path next (Behind h.1.gate) (output_observed net h.1.gate listed h.1.stands h.1.drives) (reached_here a.gates (is_stop a p) h.1.gate.ins next h.1.reads) h.2

  from_d : (f : Flop ℕ) (path : List ℕ) → Contains a.flops f → IsPathBack a.gates (λ net. false) f.d path g.out → IsCovered a p g
  from_d f path c h =
      let o = takes_its_d a p f fits served c in
      follow path f.d (AtNet f.d) (record { cell = o.0; stands = o.1; observes = takes_observes o.0.kind o.2; begins = o.4 }) (reached_here a.gates (is_stop a p) (f.d ∷ []) f.d (here f.d [])) h

  pub all_covered : IsUsed a g → IsCovered a p g
  all_covered used = by (Contains-append_cases a.outputs (map (λ f. f.d) a.flops) used.first used.stands)
    where
      by : Contains a.outputs used.first ⊎ Contains (map (λ (f : Flop ℕ). f.d) a.flops) used.first → IsCovered a p g
      by (inl listed) = from_output used.first used.path listed used.leads
      by (inr listed) =
          let f = of_map (λ (f : Flop ℕ). f.d) a.flops used.first listed in
          from_d f.0 used.path f.1 (subst (λ n. IsPathBack a.gates (λ net. false) n used.path g.out) (sym f.2) used.leads)
