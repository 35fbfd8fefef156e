-- Outside a test a netlist whose drivers are the written one's keeps the original's bits.
use Rattle.std.proofs.Common.{arith, ◌≡◌, ℕ, suc, ◌<◌, Bool, false, List, [], ◌∷◌, ◌++◌, length, map, take, refl, sym, ap, subst, ◌∙◌}
use Rattle.std.specs.List.{AllByRecursion}
use Rattle.std.proofs.lemmas.List.Elements.{recursion_from_All}
use Rattle.std.proofs.Math.Seq.{take-append_seam}
use Rattle.bb_base.specs.Net.{Flop, Netlist, driven, renamed_flop}
use Rattle.bb_base.specs.Order.{HasOrder}
use Rattle.bb_base.specs.Run.{IsRun, states, at, by_op}
use Rattle.bb_base.specs.Named.{Named, IsNamed}
use Rattle.bb_net.specs.Sites.{Site, sited, site_of}
use Rattle.bb_net.proofs.Renaming.{at_map}
use Rattle.bb_base.proofs.Renamed.{run_back, driven_renamed}
use Rattle.bb_base.proofs.Lists.{map_twice, map_join, all_map_back, length_map}
use Rattle.bb_runs.proofs.Valuations.{runs_agree}
use Rattle.bb_terms.specs.Plan.{PlanValue}
use Rattle.bb_terms.specs.declared.wire.Wire.{Wire}
use Rattle.bb_terms.specs.declared.wire.Wire.TheVariants.{Kept, Test, Init, So, Done}
use Rattle.bb_written.specs.Written.{wire_site, written_netlist, written}
use Rattle.bb_written.specs.Restricted.{original_bits, IsOutsideTest, first_state, RunsAsOriginal}
use Rattle.bb_normal.specs.Mirrors.{Mirrors}
use Rattle.bb_normal.specs.Normal.{site_test, site_init, site_so, site_done, inputs_outside, HaveSameBits, Corresponds, KeepsBits}
use Rattle.bb_normal.proofs.Mirroring.{run_symbols, same_each}

-- inputs outside a test -------------------------------------------------------

-- where the original's inputs have their bits, `bt_test` has 0
test_bit : (v : Wire → Bool) (nets : List ℕ) (i : List Bool) (b : Bool) → length i ≡ length nets → map v (map Kept nets ++ Test ∷ Init ∷ []) ≡ i ++ false ∷ b ∷ [] → v Test ≡ false
test_bit v [] [] b long e = cc e
test_bit v [] (x ∷ i) b long e = absurd (omega (arith, long))
test_bit v (net ∷ nets) [] b long e = absurd (omega (arith, long))
test_bit v (net ∷ nets) (x ∷ i) b long e =
    let rest : map v (map Kept nets ++ Test ∷ Init ∷ []) ≡ i ++ false ∷ b ∷ [] = cc e in
    test_bit v nets i b (omega (arith, long)) rest

outside : (a : Netlist ℕ) (p : PlanValue) (s : List Bool) (is : List (List Bool)) (inits : List Bool) (vs : List (Wire → Bool)) → AllByRecursion (λ i. length i ≡ length a.inputs) is
    → IsRun (written_netlist a p) s (inputs_outside is inits) vs → IsOutsideTest vs
outside a p s [] inits [] each run = tt
outside a p s [] inits (v ∷ vs) each run = absurd run
outside a p s (i ∷ is) [] [] each run = tt
outside a p s (i ∷ is) [] (v ∷ vs) each run = absurd run
outside a p s (i ∷ is) (b ∷ bs) [] each run = absurd run
outside a p s (i ∷ is) (b ∷ bs) (v ∷ vs) each run = (test_bit v a.inputs i b each.0 run.0.inputs, outside a p (map (λ (f : Flop Wire). v f.d) (written_netlist a p).flops) is bs vs each.1 run.1)

-- the original's inputs among them
own_part : (i more : List Bool) (k : ℕ) → length i ≡ k → take k (i ++ more) ≡ i
own_part i more k long = subst (λ n. take n (i ++ more) ≡ i) long (take-append_seam i more)

own_inputs : (k : ℕ) (is : List (List Bool)) (inits : List Bool) → length inits ≡ length is → AllByRecursion (λ i. length i ≡ k) is → map (take k) (inputs_outside is inits) ≡ is
own_inputs k [] inits long each = refl
own_inputs k (i ∷ is) [] long each = absurd (omega (arith, long))
own_inputs k (i ∷ is) (b ∷ bs) long each =
    let rest = own_inputs k is bs (omega (arith, long)) each.1 in
    let here = own_part i (false ∷ b ∷ []) k each.0 in
    λ j. here j ∷ rest j

-- a run's inputs are as long as the netlist's
inputs_long : (n : Netlist ℕ) (s : List Bool) (is : List (List Bool)) (vs : List (ℕ → Bool)) → IsRun n s is vs → AllByRecursion (λ i. length i ≡ length n.inputs) is
inputs_long n s [] vs run = tt
inputs_long n s (i ∷ is) [] run = absurd run
inputs_long n s (i ∷ is) (v ∷ vs) run = (ap length (sym run.0.inputs) ∙ length_map v n.inputs, inputs_long n (map (λ (f : Flop ℕ). v f.d) n.flops) is vs run.1)

-- the same bits -----------------------------------------------------------------

-- bits of two runs that are the same in each cycle
have_same : (nets : List Site) (vs ws : List (Site → Bool)) → length vs ≡ length ws → ((c : ℕ) → AllByRecursion (λ net. at ws c net ≡ at vs c net) nets) → HaveSameBits nets vs ws
have_same nets [] [] long same = tt
have_same nets [] (w ∷ ws) long same = absurd (omega (arith, long))
have_same nets (v ∷ vs) [] long same = absurd (omega (arith, long))
have_same nets (v ∷ vs) (w ∷ ws) long same = (same 0, have_same nets vs ws (omega (arith, long)) (λ c. same (suc c)))

run_length : {N : Type 0} (n : Netlist N) (s : List Bool) (is : List (List Bool)) (vs : List (N → Bool)) → IsRun n s is vs → length vs ≡ length is
run_length n s [] [] run = refl
run_length n s [] (v ∷ vs) run = absurd run
run_length n s (i ∷ is) [] run = absurd run
run_length n s (i ∷ is) (v ∷ vs) run = ap suc (run_length n (map (λ f. v f.d) n.flops) is vs run.1)

outside_length : (is : List (List Bool)) (inits : List Bool) → length inits ≡ length is → length (inputs_outside is inits) ≡ length is
outside_length [] inits long = refl
outside_length (i ∷ is) [] long = absurd (omega (arith, long))
outside_length (i ∷ is) (b ∷ bs) long = ap suc (outside_length is bs (omega (arith, long)))

module _ (a b : Named) (p : PlanValue) (named : IsNamed a) (has : HasOrder a.netlist.gates) (as_original : RunsAsOriginal a.netlist p) (m : Mirrors (written a p) b) where
  -- bits read at the original's nets
  own_bits : List (Site → Bool) → List (ℕ → Bool)
  own_bits vs = map (λ v net. v (site_of a net)) vs

  -- where the flip-flops have the same bits in the first cycle, the original starts from the same state
  same_start : (v w : Site → Bool) (s : List Bool) → states (sited a).netlist v ≡ s → AllByRecursion (λ net. w net ≡ v net) (map (λ f. f.q) (sited a).netlist.flops) → states a.netlist (λ net. w (site_of a net)) ≡ s
  same_start v w s e all =
      let qs : List Site = map (λ f. f.q) (sited a).netlist.flops in
      let by_w : states (sited a).netlist w ≡ states a.netlist (λ net. w (site_of a net)) = map_twice (λ (f : Flop Site). w f.q) (renamed_flop (site_of a)) a.netlist.flops in
      let alike : map w qs ≡ map v qs = same_each w v qs all in
      let at_w : map w qs ≡ states (sited a).netlist w = map_twice w (λ (f : Flop Site). f.q) (sited a).netlist.flops in
      let at_v : map v qs ≡ states (sited a).netlist v = map_twice v (λ (f : Flop Site). f.q) (sited a).netlist.flops in
      sym by_w ∙ sym at_w ∙ alike ∙ at_v ∙ e

  -- each run of b outside a test is a run of the original at its nets
  as_own : (t : List Bool) (is : List (List Bool)) (inits : List Bool) (ws : List (Site → Bool)) → length inits ≡ length is → AllByRecursion (λ i. length i ≡ length a.netlist.inputs) is
      → IsRun (sited b).netlist t (inputs_outside is inits) ws → IsRun a.netlist (first_state a.netlist (map (λ v w. v (wire_site a w)) ws)) is (own_bits ws)
  unfolding own_bits
  as_own t is inits ws long each run =
      let wired : List (Wire → Bool) = map (λ v w. v (wire_site a w)) ws in
      let start : List Bool = states (written_netlist a.netlist p) (λ w. at ws 0 (wire_site a w)) in
      let symbols : IsRun (written_netlist a.netlist p) start (inputs_outside is inits) wired = run_symbols a b p by_op t (inputs_outside is inits) ws m run in
      let original = as_original start (inputs_outside is inits) wired symbols (outside a.netlist p start is inits wired each symbols) in
      let values : map original_bits wired ≡ own_bits ws = map_twice original_bits (λ v w. v (wire_site a w)) ws in
      subst (λ xs. IsRun a.netlist (first_state a.netlist wired) xs (own_bits ws)) (own_inputs (length a.netlist.inputs) is inits long each)
      (subst (IsRun a.netlist (first_state a.netlist wired) (map (take (length a.netlist.inputs)) (inputs_outside is inits))) values original)

  agree_all : (s : List Bool) (is : List (List Bool)) (vs ws : List (Site → Bool)) → IsRun a.netlist s is (own_bits vs) → IsRun a.netlist s is (own_bits ws) → (c : ℕ) → AllByRecursion (λ net. at ws c net ≡ at vs c net) (driven (sited a).netlist)
  unfolding own_bits
  agree_all s is vs ws one two c =
      subst (AllByRecursion (λ net. at ws c net ≡ at vs c net)) (sym (driven_renamed (site_of a) a.netlist))
      (all_map_back (λ net. at ws c net ≡ at vs c net) (λ net. net < length (driven a.netlist)) (site_of a)
      (λ net small. sym (at_map (site_of a) ws c net) ∙ runs_agree by_op a.netlist has.0 named.netlist has.1 s is (own_bits ws) (own_bits vs) two one c net small ∙ at_map (site_of a) vs c net)
      (driven a.netlist) (recursion_from_All (λ net. net < length (driven a.netlist)) (driven a.netlist) named.netlist.drives_nets))

  pub keeps_bits : KeepsBits (sited a).netlist (sited b).netlist
  unfolding own_bits
  keeps_bits s t is inits vs ws long run_a run_b starts =
      let own_a : IsRun a.netlist s is (own_bits vs) = run_back (site_of a) a.netlist s is vs run_a in
      let own_b = as_own t is inits ws long (inputs_long a.netlist s is (own_bits vs) own_a) run_b in
      let longs : length vs ≡ length ws =
      run_length (sited a).netlist s is vs run_a ∙ sym (outside_length is inits long) ∙ sym (run_length (sited b).netlist t (inputs_outside is inits) ws run_b) in
      have_same (driven (sited a).netlist) vs ws longs (agree_all s is vs ws own_a (from_start is vs ws run_a own_b starts))
    where
      from_start : (is : List (List Bool)) (vs ws : List (Site → Bool)) → IsRun (sited a).netlist s is vs → IsRun a.netlist (first_state a.netlist (map (λ v w. v (wire_site a w)) ws)) is (own_bits ws)
          → Corresponds (map (λ f. f.q) (sited a).netlist.flops) vs ws → IsRun a.netlist s is (own_bits ws)
      from_start [] [] [] run own c = tt
      from_start [] [] (w ∷ ws) run own c = absurd own
      from_start [] (v ∷ vs) ws run own c = absurd run
      from_start (i ∷ is) [] ws run own c = absurd run
      from_start (i ∷ is) (v ∷ vs) [] run own c = absurd own
      from_start (i ∷ is) (v ∷ vs) (w ∷ ws) run own c = subst (λ x. IsRun a.netlist x (i ∷ is) (own_bits (w ∷ ws))) (same_start v w s run.0.state c) own

  pub inputs_are : (sited b).netlist.inputs ≡ (sited a).netlist.inputs ++ site_test ∷ site_init ∷ []
  inputs_are = m.inputs ∙ map_join (wire_site a) (map Kept a.netlist.inputs) (Test ∷ Init ∷ []) ∙ ap (λ ns. ns ++ site_test ∷ site_init ∷ []) (map_twice (wire_site a) Kept a.netlist.inputs)

  pub outputs_are : (sited b).netlist.outputs ≡ (sited a).netlist.outputs ++ site_so ∷ site_done ∷ []
  outputs_are = m.outputs ∙ map_join (wire_site a) (map Kept a.netlist.outputs) (So ∷ Done ∷ []) ∙ ap (λ ns. ns ++ site_so ∷ site_done ∷ []) (map_twice (wire_site a) Kept a.netlist.outputs)
