-- A test run: from any state, under any inputs of the original.
use Rattle.std.specs.Prelude.{◌≡◌, ℕ, ◌^◌, Bool, true, false, List, [], ◌∷◌, ◌++◌, map}
use Rattle.std.specs.List.{AllByRecursion}
use Rattle.bb_base.specs.Net.{Gate}
use Rattle.bb_base.specs.Run.{IsRunBy, by_op}
use Rattle.bb_base.specs.Named.{Named}
use Rattle.bb_net.specs.Sites.{Site, sited}
use Rattle.bb_terms.specs.Plan.{PlanValue}
use Rattle.bb_normal.specs.Normal.{site_test, site_init}
use Rattle.bb_testrun.specs.Held.{run_cycle_of, unload_cycle_of}

-- `bt_test` is 1 throughout, and `bt_init` in the first cycle alone
abbrev pub IsTested : List (Site → Bool) → Type 0
IsTested [] = Unit {0}
IsTested (v ∷ vs) = ((v site_test ≡ true) × (v site_init ≡ true)) × AllByRecursion (λ w. (w site_test ≡ true) × (w site_init ≡ false)) vs

-- a test run of b, for this meaning of gates, with these bits of nets in each cycle
pub record IsTestRunBy (gives : Gate Site → List Bool → Bool) (b : Named) (vs : List (Site → Bool)) : Type 0 where
  pub start : List Bool
  pub inputs : List (List Bool)
  pub run : IsRunBy gives (sited b).netlist start inputs vs
  pub tested : IsTested vs

-- the same where each gate is as its operator says
abbrev pub IsTestRun : Named → List (Site → Bool) → Type 0
IsTestRun b vs = IsTestRunBy by_op b vs

-- the inputs of each cycle of a test: the original's, 1 for `bt_test`, and for `bt_init` 1 in the first cycle alone
abbrev pub inputs_in_test : List (List Bool) → List (List Bool)
inputs_in_test [] = []
inputs_in_test (i ∷ is) = (i ++ true ∷ true ∷ []) ∷ map (λ later. later ++ true ∷ false ∷ []) is

-- cycle t of the run of session s
abbrev pub run_cycle : PlanValue → ℕ → ℕ → ℕ
run_cycle p s t = run_cycle_of (2 ^ p.degree) s t

-- cycle j of the unloading of session s
abbrev pub unload_cycle : PlanValue → ℕ → ℕ → ℕ
unload_cycle p s j = unload_cycle_of (2 ^ p.degree) s j
