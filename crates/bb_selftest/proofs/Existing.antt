-- A written netlist has test runs.
use Rattle.std.proofs.Common.{◌≡◌, ◌∙◌, ◌+◌, ◌++◌, ℕ, suc, Bool, true, false, List, [], ◌∷◌, length, map, refl, sym, ap, arith}
use Rattle.std.proofs.lemmas.List.{length-append}
use Rattle.std.specs.List.{AllByRecursion}
use Rattle.bb_base.proofs.Lists.{length_map, all_map_back}
use Rattle.bb_base.specs.Net.{Gate, Netlist}
use Rattle.bb_base.specs.Order.{HasOrder}
use Rattle.bb_base.specs.Run.{IsRunBy, next_states}
use Rattle.bb_base.specs.Named.{Named}
use Rattle.bb_net.specs.Sites.{Site, site_of, sited}
use Rattle.bb_runs.proofs.NamedRuns.{site_run}
use Rattle.bb_terms.specs.Plan.{PlanValue}
use Rattle.bb_written.proofs.Forward.{forward}
use Rattle.bb_written.proofs.Ranked.{no_loop}
use Rattle.bb_normal.specs.Normal.{site_test, site_init}
use Rattle.bb_normal.proofs.Whole.{normal, ordered}
use Rattle.bb_selftest.specs.TestRun.{IsTested, IsTestRunBy, inputs_in_test}
use Rattle.bb_selftest.specs.TestTrace.{IsWrittenNetlist}

-- the last two inputs
last_two : (v : Site → Bool) (xs : List Site) (i : List Bool) (x y : Bool) → length i ≡ length xs → map v (xs ++ site_test ∷ site_init ∷ []) ≡ i ++ x ∷ y ∷ [] → (v site_test ≡ x) × (v site_init ≡ y)
last_two v [] [] x y long e = (cc e, cc e)
last_two v [] (b ∷ i) x y long e = absurd (omega (arith, long))
last_two v (s ∷ xs) [] x y long e = absurd (omega (arith, long))
last_two v (s ∷ xs) (b ∷ i) x y long e = last_two v xs i x y (omega (arith, long)) (cc e)

module _ (gives : Gate Site → List Bool → Bool) (n : Netlist Site) (own : List Site) (inputs : n.inputs ≡ own ++ site_test ∷ site_init ∷ []) where
  later : (s : List Bool) (is : List (List Bool)) (vs : List (Site → Bool)) → AllByRecursion (λ i. length i ≡ length own) is → IsRunBy gives n s (map (λ later. later ++ true ∷ false ∷ []) is) vs
      → AllByRecursion (λ w. (w site_test ≡ true) × (w site_init ≡ false)) vs
  later s [] [] each run = tt
  later s [] (v ∷ vs) each run = absurd run
  later s (i ∷ is) [] each run = absurd run
  later s (i ∷ is) (v ∷ vs) each run = (last_two v own i true false each.0 (ap (map v) (sym inputs) ∙ run.0.inputs), later (next_states n v) is vs each.1 run.1)

  tested_run : (s : List Bool) (is : List (List Bool)) (vs : List (Site → Bool)) → AllByRecursion (λ i. length i ≡ length own) is → IsRunBy gives n s (inputs_in_test is) vs → IsTested vs
  tested_run s [] [] each run = tt
  tested_run s [] (v ∷ vs) each run = absurd run
  tested_run s (i ∷ is) [] each run = absurd run
  tested_run s (i ∷ is) (v ∷ vs) each run = (last_two v own i true true each.0 (ap (map v) (sym inputs) ∙ run.0.inputs), later (next_states n v) is vs each.1 run.1)

-- a run is as long as its inputs
run_long : (gives : Gate Site → List Bool → Bool) (n : Netlist Site) (s : List Bool) (is : List (List Bool)) (vs : List (Site → Bool)) → IsRunBy gives n s is vs → length vs ≡ length is
run_long gives n s [] [] run = refl
run_long gives n s [] (v ∷ vs) run = absurd run
run_long gives n s (i ∷ is) [] run = absurd run
run_long gives n s (i ∷ is) (v ∷ vs) run = ap suc (run_long gives n (next_states n v) is vs run.1)

test_long : (is : List (List Bool)) → length (inputs_in_test is) ≡ length is
test_long [] = refl
test_long (i ∷ is) = ap suc (length_map (λ later. later ++ true ∷ false ∷ []) is)

two_more : (i : List Bool) (x y : Bool) (k m : ℕ) → length i ≡ k → m ≡ k + 2 → length (i ++ x ∷ y ∷ []) ≡ m
two_more i x y k m long all = let joined = length-append i (x ∷ y ∷ []) in omega (arith, joined, long, all)

each_long : (k m : ℕ) → m ≡ k + 2 → (is : List (List Bool)) → AllByRecursion (λ i. length i ≡ k) is → AllByRecursion (λ i. length i ≡ m) (inputs_in_test is)
each_long k m all [] each = tt
each_long k m all (i ∷ is) each = (
  two_more i true true k m each.0 all,
  all_map_back (λ i. length i ≡ m) (λ i. length i ≡ k) (λ later. later ++ true ∷ false ∷ []) (λ i long. two_more i true false k m long all) is each.1,
)

pub exist : (a b : Named) (p : PlanValue) (gives : Gate Site → List Bool → Bool) (start : List Bool) (is : List (List Bool)) → IsWrittenNetlist a b p → length start ≡ length b.netlist.flops
    → AllByRecursion (λ i. length i ≡ length a.netlist.inputs) is
    → (vs : List (Site → Bool)) × IsRunBy gives (sited b).netlist start (inputs_in_test is) vs × IsTestRunBy gives b vs × (length vs ≡ length is)
exist a b p gives start is w long each =
    let has : HasOrder b.netlist.gates = ordered forward no_loop a b p w.original w.named w.own_names w.plan w.mirrors in
    let inputs = (normal forward no_loop a b p w.original w.named w.own_names w.plan w.mirrors).inputs in
    let joined = length-append (map (site_of a) a.netlist.inputs) (site_test ∷ site_init ∷ []) in
    let counted : length (map (site_of b) b.netlist.inputs) ≡ length (map (site_of a) a.netlist.inputs ++ site_test ∷ site_init ∷ []) = ap length inputs in
    let of_a = length_map (site_of a) a.netlist.inputs in
    let of_b = length_map (site_of b) b.netlist.inputs in
    let all : length b.netlist.inputs ≡ length a.netlist.inputs + 2 = omega (arith, joined, counted, of_a, of_b) in
    let ran = site_run b w.named has gives start (inputs_in_test is) long (each_long (length a.netlist.inputs) (length b.netlist.inputs) all is each) in
    let own_each : AllByRecursion (λ (i : List Bool). length i ≡ length (map (site_of a) a.netlist.inputs)) is = each_as is each in (
      ran.0,
      ran.1,
      record { start = start; inputs = inputs_in_test is; run = ran.1; tested = tested_run gives (sited b).netlist (map (site_of a) a.netlist.inputs) inputs start is ran.0 own_each ran.1 },
      run_long gives (sited b).netlist start (inputs_in_test is) ran.0 ran.1 ∙ test_long is,
    )
  where
    each_as : (is : List (List Bool)) → AllByRecursion (λ i. length i ≡ length a.netlist.inputs) is → AllByRecursion (λ i. length i ≡ length (map (site_of a) a.netlist.inputs)) is
    each_as [] h = tt
    each_as (i ∷ is) h = (h.0 ∙ sym (length_map (site_of a) a.netlist.inputs), each_as is h.1)
