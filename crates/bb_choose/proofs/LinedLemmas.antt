-- The leaves of each cell of the chosen registers: an observer's are those of its line, other cells have none.
use Rattle.std.proofs.Common.{◌≡◌, ◌⊎◌, inl, inr, ℕ, nat_lt, true, List, [], ◌∷◌, length, map, refl, sym, subst, arith}
use Rattle.std.specs.List.{AllByRecursion, AllZip, flat_map}
use Rattle.std.proofs.lemmas.List.Concat.{flat_map-append}
use Rattle.std.proofs.lemmas.List.Folds.{flat_map-map}
use Rattle.std.proofs.lemmas.List.Sorted.{Contains-permutation, IsPermutation-sym, length_permutation}
use Rattle.bb_base.proofs.Contained.{of_all, to_all}
use Rattle.bb_base.specs.Net.{Netlist}
use Rattle.bb_terms.specs.declared.plan.Cell.{Cell}
use Rattle.bb_terms.specs.Kinds.{only_generates}
use Rattle.bb_terms.specs.Plan.{RegisterValue}
use Rattle.bb_reg.specs.Draft.{DraftValue, AreCells, HasLeavesWith}
use Rattle.bb_reg.specs.Chosen.{Seen, in_runs, register_of, grouped_of}
use Rattle.bb_reg.proofs.DraftLemmas.{zip_join}
use Rattle.bb_reg.proofs.OnceLemmas.{fitted_once}
use Rattle.bb_choose.specs.ChosenPlan.{AreCutsOf}
use Rattle.bb_choose.proofs.DraftedLemmas.{sources_generate}
use Rattle.bb_choose.proofs.OwnLineLemmas.{IsSeen, each_seen}
use Rattle.bb_choose.proofs.ScheduleLemmas.{sources_of, groups_of, observing_register}

abbrev pub IsLined : Netlist ℕ → List ℕ → Cell → List ℕ → Type 0
IsLined a cuts c leaves = ((only_generates c.kind ≡ true) × (leaves ≡ [])) ⊎ HasLeavesWith a cuts c leaves

-- cells that generate alone
bare_lined : (a : Netlist ℕ) (cuts : List ℕ) (cells sources : List Cell) → length sources ≡ length cells → AllByRecursion (λ c. only_generates c.kind ≡ true) cells → AllZip (IsLined a cuts) cells (map (λ c. []) sources)
bare_lined a cuts [] [] long all = tt
bare_lined a cuts [] (s ∷ sources) long all = absurd (omega (arith, long))
bare_lined a cuts (c ∷ cells) [] long all = absurd (omega (arith, long))
bare_lined a cuts (c ∷ cells) (s ∷ sources) long all = (inl (all.0, refl), bare_lined a cuts cells sources (omega (arith, long)) all.1)

-- the observers of one register, and of all
group_lined : (a : Netlist ℕ) (cuts : List ℕ) (group : List Seen) → AllByRecursion (IsSeen a cuts) group → AllZip (IsLined a cuts) (map (λ o. o.cell) group) (map (λ o. o.leaves) group)
group_lined a cuts [] all = tt
group_lined a cuts (o ∷ group) all = (inr all.0.line, group_lined a cuts group all.1)

groups_lined : (a : Netlist ℕ) (cuts : List ℕ) (groups : List (List Seen)) → AllByRecursion (AllByRecursion (IsSeen a cuts)) groups
    → AllZip (IsLined a cuts) (flat_map (λ (g : RegisterValue). g.cells) (map observing_register groups)) (flat_map (map (λ o. o.leaves)) groups)
groups_lined a cuts [] all = tt
groups_lined a cuts (group ∷ groups) all =
    zip_join (IsLined a cuts) (map (λ (o : Seen). o.cell) group) (flat_map (λ (g : RegisterValue). g.cells) (map observing_register groups)) (map (λ (o : Seen). o.leaves) group) (flat_map (map (λ o. o.leaves)) groups)
    (group_lined a cuts group all.0) (groups_lined a cuts groups all.1)

pub chain_lined : (a : Netlist ℕ) (cuts : List ℕ) (draft : DraftValue) (most : ℕ) → AreCutsOf a cuts → AreCells a cuts draft
    → AllZip (IsLined a cuts) (flat_map (λ (g : RegisterValue). g.cells) (grouped_of draft most).registers) (grouped_of draft most).leaves
chain_lined a cuts draft most cuts_are are =
    let cells_of : RegisterValue → List Cell = λ g. g.cells in
    let fits_run : Cell → List Cell → _ = λ c run. nat_lt (length run) most in
    let runs = in_runs most draft.sources in
    let flat = flat_map (λ run. run) runs in
    let G : Cell → Type 0 = λ c. only_generates c.kind ≡ true in
    let moved = fitted_once fits_run draft.sources in
    let all = subst (AllByRecursion G) (sym are.sources_are) (sources_generate a are.reading) in
    let flat_all : AllByRecursion G flat = to_all G flat (λ c h. of_all G draft.sources c all (Contains-permutation flat draft.sources c (IsPermutation-sym draft.sources flat moved) h)) in
    let sources = bare_lined a cuts flat draft.sources (sym (length_permutation draft.sources flat moved)) flat_all in
    let front : AllZip (IsLined a cuts) (flat_map cells_of (sources_of draft most)) (map (λ c. []) draft.sources) =
    subst (λ cs. AllZip (IsLined a cuts) cs (map (λ c. []) draft.sources)) (sym (flat_map-map cells_of register_of runs)) sources in
    let back = groups_lined a cuts (groups_of draft most) (each_seen a cuts draft most cuts_are are) in
    subst (λ cs. AllZip (IsLined a cuts) cs (grouped_of draft most).leaves) (sym (flat_map-append cells_of (sources_of draft most) (map observing_register (groups_of draft most))))
    (zip_join (IsLined a cuts) (flat_map cells_of (sources_of draft most)) (flat_map cells_of (map observing_register (groups_of draft most))) (map (λ c. []) draft.sources) (flat_map (map (λ o. o.leaves)) (groups_of draft most)) front back)
