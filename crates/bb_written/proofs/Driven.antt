-- What the written netlist reads is driven.
use Rattle.std.proofs.Common.{arith, ◌≡◌, ◌⊎◌, inl, inr, ℕ, ◌<◌, ◌==◌, suc, Bool, true, false, if◌then◌else◌, List, [], ◌∷◌, ◌++◌, map, length, refl, ap, subst, ◌∙◌, Contains}
use Rattle.std.specs.List.{AllByRecursion, flat_map}
use Rattle.bb_base.proofs.Contained.{here, there, either, none_in, of_all, to_all, by_place, contains_at}
use Rattle.bb_base.proofs.Lists.{all_join, all_front, all_back, all_map, all_map_back, map_join}
use Rattle.bb_base.specs.Net.{Gate, Flop, Netlist, IsNetlist, driven, reads}
use Rattle.bb_base.proofs.TimesLemmas.{standing}
use Rattle.bb_net.proofs.Renaming.{OfAllNets, nets_below}
use Rattle.bb_terms.specs.declared.plan.Cell.{Cell}
use Rattle.bb_terms.specs.declared.kind.Kind.{Kind}
use Rattle.bb_terms.specs.declared.kind.Kind.TheVariants.{State, Split}
use Rattle.bb_terms.specs.Plan.{PlanValue, chain}
use Rattle.bb_terms.specs.Lines.{d_of}
use Rattle.bb_terms.specs.Rules.{Kinds, Served, HasKind, MayStand, IsGateNet, IsQ}
use Rattle.bb_terms.specs.declared.kind.Kind.TheVariants.{Input, Cut, Watch, Output}
use Rattle.bb_terms.specs.Valid.{IsValidPlan}
use Rattle.bb_terms.proofs.NetLemmas.{d_within, q_net, q_within, out_within, input_net_within}
use Rattle.bb_terms.proofs.ServedLemmas.{served_at}
use Rattle.bb_terms.specs.declared.wire.Wire.{Wire}
use Rattle.bb_terms.specs.declared.wire.Wire.TheVariants.{Kept, Test, Init, So, Done, Phase, PhaseNext}
use Rattle.bb_terms.specs.Reads.{q_by, q_of, qs_from}
use Rattle.bb_written.specs.Cells.{flop, word_flops, ring_flops, cell_flops, flops}
use Rattle.bb_written.specs.Written.{test_gates, written_gate, written_netlist}
use Rattle.bb_written.proofs.Rising.{out_of, q_in}
use Rattle.bb_written.proofs.Reached.{HoldsOfDriven, RowHolds, cells_are, so, done, rows_hold, written_reads, ds_hold, d_in}
use Rattle.bb_written.proofs.Sizes.{ahead_long}

-- the d of a flip-flop is a net
pub d_inside : (a : Netlist ℕ) → IsNetlist a → (net : ℕ) → net < length (driven a) → d_of a.flops net < length (driven a)
d_inside a is net less = by a.flops (λ f c. d_within a f is c)
  where
    by : (fs : List (Flop ℕ)) → ((f : Flop ℕ) → Contains fs f → f.d < length (driven a)) → d_of fs net < length (driven a)
    by [] h = less
    by (f ∷ fs) h = on (f.q == net) (by fs (λ g c. h g (there f fs g c)))
      where
        on : (b : Bool) → d_of fs net < length (driven a) → (if b then f.d else d_of fs net) < length (driven a)
        on true k = h f (here f fs)
        on false k = k

-- a cell stands on a net
module _ (a : Netlist ℕ) (is : IsNetlist a) where
  gate_within : (net : ℕ) → IsGateNet a net → net < length (driven a)
  gate_within net g = subst (λ n. n < length (driven a)) g.1.2 (out_within a g.1.0 is (contains_at a.gates g.0 g.1.0 g.1.1))

  flop_within : (net : ℕ) → IsQ a net → net < length (driven a)
  flop_within net q = subst (λ n. n < length (driven a)) q.1.2 (q_within a q.1.0 is (contains_at a.flops q.0 q.1.0 q.1.1))

  cell_within : (k : Kind) (net : ℕ) → MayStand a k net → net < length (driven a)
  cell_within Input net h = input_net_within a net is h
  cell_within State net h = flop_within net h
  cell_within Split net h = flop_within net h
  cell_within Cut net h = gate_within net h
  cell_within Watch net h = flop_within net h
  cell_within Output net h = gate_within net h.0

  pub cells_within : (p : PlanValue) → IsValidPlan a p → AllByRecursion (λ (c : Cell). c.net < length (driven a)) (chain p)
  cells_within p valid = by_place (λ (c : Cell). c.net < length (driven a)) (chain p) (λ i c at. cell_within c.kind c.net (valid.meets Kinds i c at))

module _ (a : Netlist ℕ) (p : PlanValue) (is : IsNetlist a) (valid : IsValidPlan a p) (P : Wire → Type 0) (all : AllByRecursion P (driven (written_netlist a p))) where
  abbrev ports : List Wire
  ports = map Kept a.inputs ++ Test ∷ Init ∷ []

  abbrev outs : List Wire
  outs = map out_of (map (written_gate p) a.gates ++ test_gates a p)

  abbrev qs : List Wire
  qs = map q_in (flops p)

  in_ports : AllByRecursion P ports
  in_ports = all_front P ports (outs ++ qs) all

  in_outs : AllByRecursion P (map out_of (map (written_gate p) a.gates) ++ map out_of (test_gates a p))
  in_outs = subst (AllByRecursion P) (map_join out_of (map (written_gate p) a.gates) (test_gates a p)) (all_front P outs qs (all_back P ports (outs ++ qs) all))

  in_qs : AllByRecursion P (map q_in (word_flops 0 p.degree) ++ Phase ∷ map q_in (ring_flops 0 (length p.sessions) ++ cell_flops 0 (chain p)))
  in_qs = subst (AllByRecursion P) (map_join q_in (word_flops 0 p.degree) (flop Phase PhaseNext ∷ (ring_flops 0 (length p.sessions) ++ cell_flops 0 (chain p)))) (all_back P outs qs (all_back P ports (outs ++ qs) all))

  in_rest : AllByRecursion P (Phase ∷ map q_in (ring_flops 0 (length p.sessions) ++ cell_flops 0 (chain p)))
  in_rest = all_back P (map q_in (word_flops 0 p.degree)) (Phase ∷ map q_in (ring_flops 0 (length p.sessions) ++ cell_flops 0 (chain p))) in_qs

  in_late : AllByRecursion P (map q_in (ring_flops 0 (length p.sessions)) ++ map q_in (cell_flops 0 (chain p)))
  in_late = subst (AllByRecursion P) (map_join q_in (ring_flops 0 (length p.sessions)) (cell_flops 0 (chain p))) in_rest.1

  in_cells : AllByRecursion P (map q_in (cell_flops 0 (chain p)))
  in_cells = all_back P (map q_in (ring_flops 0 (length p.sessions))) (map q_in (cell_flops 0 (chain p))) in_late

  -- the flip-flop of a State or Split cell
  q_there : (k : Kind) → (k ≡ State) ⊎ (k ≡ Split) → (i : ℕ) (cs : List Cell) (c : Cell) → c.kind ≡ k → Contains cs c → AllByRecursion P (qs_from i cs) → P (Kept c.net)
  q_there k two i [] c e h rest = absurd (none_in c h)
  q_there k two i (d ∷ cs) c e h rest = by (either d cs c h) (λ more. q_there k two (suc i) cs c e more rest.1)
    where
      kept : (j : Kind) → (j ≡ State) ⊎ (j ≡ Split) → q_by j c.net i ≡ Kept c.net
      kept j (inl f) = ap (λ (m : Kind). q_by m c.net i) f
      kept j (inr f) = ap (λ (m : Kind). q_by m c.net i) f

      by : (d ≡ c) ⊎ Contains cs c → (Contains cs c → P (Kept c.net)) → P (Kept c.net)
      by (inl same) more = subst P (ap (λ (x : Cell). q_of i x) same ∙ ap (λ (m : Kind). q_by m c.net i) e ∙ kept k two) rest.0
      by (inr there) more = more there

  has_kept : (k : Kind) → (k ≡ State) ⊎ (k ≡ Split) → (net : ℕ) → HasKind p k net → P (Kept net)
  has_kept k two net h = subst (λ n. P (Kept n)) h.on (q_there k two 0 (chain p) h.cell h.of_kind h.stands (subst (AllByRecursion P) (cells_are 0 (chain p)) in_cells))

  flop_kept : (f : Flop ℕ) → Contains a.flops f → P (Kept f.q)
  flop_kept f c = by ((served_at a p f.q (valid.meets Served) (q_within a f is c)).flop (q_net a f c))
    where
      by : HasKind p State f.q ⊎ (HasKind p Split f.q × HasKind p Watch f.q) → P (Kept f.q)
      by (inl h) = has_kept State (inl refl) f.q h
      by (inr h) = has_kept Split (inr refl) f.q h.0

  kept : (net : ℕ) → net < length (driven a) → P (Kept net)
  kept net less =
      let one = is.one_driver net less in
      standing (λ n. P (Kept n)) net (driven a) (omega (arith, one))
      (all_join (λ n. P (Kept n)) a.inputs (map (λ g. g.out) a.gates ++ map (λ f. f.q) a.flops) (all_map P (λ n. P (Kept n)) Kept (λ n h. h) a.inputs (all_front P (map Kept a.inputs) (Test ∷ Init ∷ []) in_ports))
      (all_join (λ n. P (Kept n)) (map (λ g. g.out) a.gates) (map (λ f. f.q) a.flops) (gate_outs a.gates (all_front P (map out_of (map (written_gate p) a.gates)) (map out_of (test_gates a p)) in_outs))
      (all_map_back (λ n. P (Kept n)) (λ (f : Flop ℕ). P (Kept f.q)) (λ f. f.q) (λ f h. h) a.flops (to_all (λ (f : Flop ℕ). P (Kept f.q)) a.flops flop_kept))))
    where
      gate_outs : (gs : List (Gate ℕ)) → AllByRecursion P (map out_of (map (written_gate p) gs)) → AllByRecursion (λ n. P (Kept n)) (map (λ g. g.out) gs)
      gate_outs [] h = tt
      gate_outs (g ∷ gs) h = (h.0, gate_outs gs h.1)

  pub holds : HoldsOfDriven P a p
  holds = record {
    kept = kept;
    test = (all_back P (map Kept a.inputs) (Test ∷ Init ∷ []) in_ports).0;
    init = (all_back P (map Kept a.inputs) (Test ∷ Init ∷ []) in_ports).1.0;
    gates = all_back P (map out_of (map (written_gate p) a.gates)) (map out_of (test_gates a p)) in_outs;
    words = all_front P (map q_in (word_flops 0 p.degree)) (Phase ∷ map q_in (ring_flops 0 (length p.sessions) ++ cell_flops 0 (chain p))) in_qs;
    phase = in_rest.0;
    rings = all_front P (map q_in (ring_flops 0 (length p.sessions))) (map q_in (cell_flops 0 (chain p))) in_late;
    cells = in_cells;
  }

  abbrev inside : (net : ℕ) → net < length (driven a) → d_of a.flops net < length (driven a)
  inside = d_inside a is

  below : OfAllNets (λ m. m < length (driven a)) a
  below = nets_below a is

  flat_rows : (rows : List (Gate Wire)) → AllByRecursion (RowHolds P) rows → AllByRecursion P (flat_map (λ g. g.ins) rows)
  flat_rows [] h = tt
  flat_rows (g ∷ rows) h = all_join P g.ins (flat_map (λ k. k.ins) rows) h.0.1 (flat_rows rows h.1)

  kept_rows : (gs : List (Gate ℕ)) → AllByRecursion (λ (g : Gate ℕ). (g.out < length (driven a)) × AllByRecursion (λ m. m < length (driven a)) g.ins) gs → AllByRecursion (RowHolds P) (map (written_gate p) gs)
  kept_rows [] h = tt
  kept_rows (g ∷ gs) h = ((kept g.out h.0.0, written_reads P a p holds inside g.ins h.0.1), kept_rows gs h.1)

  -- every row's nets
  pub rows_all : AllByRecursion (RowHolds P) (map (written_gate p) a.gates ++ test_gates a p)
  rows_all = all_join (RowHolds P) (map (written_gate p) a.gates) (test_gates a p) (kept_rows a.gates below.gates) (rows_hold P a p holds inside (cells_within a is p valid))

  pub reads_hold : AllByRecursion P (reads (written_netlist a p))
  reads_hold =
      all_join P (map Kept a.outputs ++ So ∷ Done ∷ []) _
      (all_join P (map Kept a.outputs) (So ∷ Done ∷ []) (all_map_back P (λ m. m < length (driven a)) Kept (λ m less. kept m less) a.outputs below.outputs) (so P a p holds, (done P a p holds, tt)))
      (all_join P (flat_map (λ g. g.ins) (map (written_gate p) a.gates ++ test_gates a p)) (map d_in (flops p)) (flat_rows (map (written_gate p) a.gates ++ test_gates a p) rows_all) (ds_hold P a p holds inside (ahead_long p)))

pub read_is_driven : (a : Netlist ℕ) (p : PlanValue) (w : Wire) → IsNetlist a → IsValidPlan a p → Contains (reads (written_netlist a p)) w → Contains (driven (written_netlist a p)) w
read_is_driven a p w is valid c =
    let P : Wire → Type 0 = Contains (driven (written_netlist a p)) in
    of_all P (reads (written_netlist a p)) w (reads_hold a p is valid P (to_all P (driven (written_netlist a p)) (λ x h. h))) c
