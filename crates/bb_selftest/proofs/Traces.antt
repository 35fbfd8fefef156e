-- Test runs of a written netlist are traces of a test, symbol by symbol.
use Rattle.std.proofs.Common.{◌≡◌, ◌⊎◌, inl, inr, ℕ, zero, suc, ◌<◌, ◌++◌, Bool, true, false, List, [], ◌∷◌, length, map, sym, ap, ◌∙◌, arith, Option, None, Some, Contains}
use Rattle.std.specs.List.{AllByRecursion}
use Rattle.std.proofs.lemmas.List.Elements.{Contains-append_left, Contains-append_right}
use Rattle.bb_base.proofs.Contained.{of_all, to_all, contains_map}
use Rattle.bb_base.proofs.Lists.{all_front, all_back, all_map}
use Rattle.bb_base.specs.Operators.{op_gives}
use Rattle.bb_base.specs.Net.{Gate, Flop, renamed_gate, driven, reads}
use Rattle.bb_base.specs.Run.{at, Meets, MeetsBy, IsTrace}
use Rattle.bb_base.specs.Named.{Named}
use Rattle.bb_net.specs.Sites.{Site, site_of, sited}
use Rattle.bb_runs.proofs.Traces.{trace_of}
use Rattle.bb_terms.specs.Change.{Change, IsChangeOf, gives_by, by_table}
use Rattle.bb_terms.specs.Plan.{PlanValue}
use Rattle.bb_terms.specs.declared.wire.Wire.{Wire}
use Rattle.bb_terms.specs.declared.wire.Wire.TheVariants.{Kept}
use Rattle.bb_terms.specs.Reads.{read}
use Rattle.bb_written.specs.Written.{wire_site, written_gate, test_gates, written_netlist}
use Rattle.bb_normal.proofs.Mirroring.{trace_symbols}
use Rattle.bb_normal.proofs.Standing.{written_sites_differ}
use Rattle.bb_normal.specs.Normal.{site_test, site_init}
use Rattle.bb_testrun.specs.Traced.{on_wires}
use Rattle.bb_testrun.proofs.TracedRuns.{added_same}
use Rattle.bb_selftest.proofs.Steps.{of_map}
use Rattle.bb_selftest.specs.WrittenLines.{sited_gate}
use Rattle.bb_selftest.specs.TestRun.{IsTested, IsTestRunBy}
use Rattle.bb_selftest.specs.TestTrace.{IsWrittenNetlist, IsTracedTest, wire_bits}

-- in a test `bt_test` is 1, and `bt_init` in the first cycle alone
later_at : (vs : List (Site → Bool)) → AllByRecursion (λ w. (w site_test ≡ true) × (w site_init ≡ false)) vs → (c : ℕ) → c < length vs → (at vs c site_test ≡ true) × (at vs c site_init ≡ false)
later_at [] h c less = absurd (omega (arith, less))
later_at (v ∷ vs) h zero less = h.0
later_at (v ∷ vs) h (suc c) less = later_at vs h.1 c (omega (arith, less))

start_at : (vs : List (Site → Bool)) → IsTested vs → 0 < length vs → (at vs 0 site_test ≡ true) × (at vs 0 site_init ≡ true)
start_at [] h less = absurd (omega (arith, less))
start_at (v ∷ vs) h less = h.0

after_at : (vs : List (Site → Bool)) → IsTested vs → (c : ℕ) → suc c < length vs → (at vs (suc c) site_test ≡ true) × (at vs (suc c) site_init ≡ false)
after_at [] h c less = absurd (omega (arith, less))
after_at (v ∷ vs) h c less = later_at vs h.1 c (omega (arith, less))

-- no added gate drives a net of the original
everywhere : Change ℕ
everywhere net = Some []

added_is_new : (a : Named) (p : PlanValue) (g : Gate Wire) (net : ℕ) → Contains (test_gates a.netlist p) g → g.out ≡ Kept net → ⊥
unfolding everywhere
added_is_new a p g net stands kept =
    let none : on_wires everywhere g.out ≡ None = of_all (λ (g : Gate Wire). on_wires everywhere g.out ≡ None) (test_gates a.netlist p) g (added_same everywhere a.netlist p) stands in
    let both : ◌≡◌ {A = Option (List (List Bool))} (Some []) None = sym (ap (on_wires everywhere) kept) ∙ none in
    cc both

module _ (a b : Named) (p : PlanValue) (w : IsWrittenNetlist a b p) where
  out_stands : (g : Gate Wire) → Contains (written_netlist a.netlist p).gates g → Contains (driven (written_netlist a.netlist p) ++ reads (written_netlist a.netlist p)) g.out
  out_stands g stands =
      let n = written_netlist a.netlist p in
      let one : Contains (map (λ (g : Gate Wire). g.out) n.gates) g.out = contains_map (λ (g : Gate Wire). g.out) n.gates g stands in
      let two = Contains-append_left (map (λ (g : Gate Wire). g.out) n.gates) (map (λ (f : Flop Wire). f.q) n.flops) g.out one in
      Contains-append_left (driven n) (reads n) g.out (Contains-append_right n.inputs (map (λ (g : Gate Wire). g.out) n.gates ++ map (λ (f : Flop Wire). f.q) n.flops) g.out two)

  -- a change of the original's gates leaves each added gate
  unchanged : (f : Change Site) → IsChangeOf (sited a).netlist.gates f → (g : Gate Wire) → Contains (test_gates a.netlist p) g → f (wire_site a g.out) ≡ None
  unchanged f change g stands = by (change (wire_site a g.out))
    where
      by : (f (wire_site a g.out) ≡ None) ⊎ ((h : Gate Site) × Contains (sited a).netlist.gates h × (h.out ≡ wire_site a g.out)) → f (wire_site a g.out) ≡ None
      by (inl e) = e
      by (inr h) =
          let own = of_map (renamed_gate (site_of a)) a.netlist.gates h.0 h.1 in
          let site : wire_site a (Kept own.0.out) ≡ wire_site a g.out = ap (λ (g : Gate Site). g.out) own.2 ∙ h.2 in
          let first = Contains-append_left (map (written_gate p) a.netlist.gates) (test_gates a.netlist p) (written_gate p own.0) (contains_map (written_gate p) a.netlist.gates own.0 own.1) in
          let second = Contains-append_right (map (written_gate p) a.netlist.gates) (test_gates a.netlist p) g stands in
          let same : Kept own.0.out ≡ g.out = written_sites_differ a p (Kept own.0.out) g.out w.original w.own_names w.plan (out_stands (written_gate p own.0) first) (out_stands g second) site in
          absurd (added_is_new a p g own.0.out stands (sym same))

  module _ (f : Change Site) (change : IsChangeOf (sited a).netlist.gates f) (vs : List (Site → Bool)) (test : IsTestRunBy (gives_by f) b vs) where
    whole : IsTrace (λ g. gives_by f (renamed_gate (wire_site a) g)) (written_netlist a.netlist p).gates (written_netlist a.netlist p).flops (length vs) (wire_bits a vs)
    whole = trace_symbols a b p (gives_by f) (length vs) (at vs) w.mirrors (trace_of (gives_by f) (sited b).netlist test.start test.inputs vs test.run)

    meets : (c : ℕ) (g : Gate Wire) → Contains (test_gates a.netlist p) g → MeetsBy (λ g. gives_by f (renamed_gate (wire_site a) g)) (wire_bits a vs c) g → Meets (wire_bits a vs c) g
    meets c g stands meet = meet ∙ ap (λ t. by_table t (map (wire_bits a vs c) g.ins) (op_gives g.op (map (wire_bits a vs c) g.ins))) (unchanged f change g stands)

    pub traced_at : IsTracedTest (gives_by f) a p vs
    traced_at = record {
      trace = record {
        start = start_at vs test.tested;
        later = after_at vs test.tested;
        trace = record {
          gates_meet = λ c less. to_all (Meets (wire_bits a vs c)) (test_gates a.netlist p)
              (λ g stands. meets c g stands (of_all (MeetsBy (λ g. gives_by f (renamed_gate (wire_site a) g)) (wire_bits a vs c)) (test_gates a.netlist p) g
              (all_back (MeetsBy (λ g. gives_by f (renamed_gate (wire_site a) g)) (wire_bits a vs c)) (map (written_gate p) a.netlist.gates) (test_gates a.netlist p) (whole.gates_meet c less)) stands));
          flops_take = whole.flops_take;
        };
      };
      kept = λ c less. all_map (MeetsBy (λ g. gives_by f (renamed_gate (wire_site a) g)) (wire_bits a vs c))
          (λ (g : Gate ℕ). wire_bits a vs c (Kept g.out) ≡ gives_by f (sited_gate a p g) (map (wire_bits a vs c) (map (read p) g.ins))) (written_gate p) (λ g m. m) a.netlist.gates
          (all_front (MeetsBy (λ g. gives_by f (renamed_gate (wire_site a) g)) (wire_bits a vs c)) (map (written_gate p) a.netlist.gates) (test_gates a.netlist p) (whole.gates_meet c less));
    }

pub traced : (a b : Named) (p : PlanValue) (f : Change Site) (vs : List (Site → Bool)) → IsWrittenNetlist a b p → IsChangeOf (sited a).netlist.gates f → IsTestRunBy (gives_by f) b vs → IsTracedTest (gives_by f) a p vs
traced a b p f vs w change test = traced_at a b p w f change vs test
