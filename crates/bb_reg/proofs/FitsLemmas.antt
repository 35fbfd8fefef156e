-- Each chosen cell stands on a net on which its kind may stand.
use Rattle.std.proofs.Common.{◌≡◌, ℕ, Bool, true, false, not, ◌||◌, List, [], ◌∷◌, ◌++◌, map, filter, refl, sym, subst, Contains, nat_eq}
use Rattle.std.specs.List.{AllByRecursion, flat_map, list_any}
use Rattle.std.proofs.lemmas.List.Sorted.{Contains-permutation, IsPermutation-sym}
use Rattle.bb_base.proofs.Lists.{all_join, all_map_back}
use Rattle.bb_base.proofs.Contained.{of_all, to_all, place_of}
use Rattle.bb_base.specs.Net.{Flop, Netlist}
use Rattle.bb_terms.specs.Paths.{is_free}
use Rattle.bb_terms.specs.Cuts.{is_stop_with}
use Rattle.bb_terms.proofs.FunctionLemmas.{driver_of}
use Rattle.bb_segment.proofs.SetLemmas.{of_filter}
use Rattle.bb_terms.specs.declared.kind.Kind.TheVariants.{Input, State, Split, Cut, Watch, Output}
use Rattle.bb_terms.specs.Plan.{RegisterValue}
use Rattle.bb_terms.specs.Rules.{Fits, IsInput, IsQ, IsGateNet}
use Rattle.bb_reg.specs.Draft.{DraftValue, AreCells, HasLeavesWith, bare_cell, those, source_cells, observer_cells}
use Rattle.bb_reg.specs.Chosen.{grouped_of}
use Rattle.bb_reg.proofs.LineLemmas.{zip_long}
use Rattle.bb_reg.proofs.OnceLemmas.{chain_once}

all_those : {X : Type 0} (P : X → Type 0) (bits : List Bool) (xs : List X) → AllByRecursion P xs → AllByRecursion P (those bits xs)
all_those P [] xs h = tt
all_those P (b ∷ bits) [] h = tt
all_those P (true ∷ bits) (x ∷ xs) h = (h.0, all_those P bits xs h.1)
all_those P (false ∷ bits) (x ∷ xs) h = all_those P bits xs h.1

free_of : (a b : Bool) → (a || b) ≡ false → a ≡ false
free_of true b e = e
free_of false b e = refl

off : (b : Bool) → not b ≡ true → b ≡ false
off true e = sym e
off false e = refl

gate_net : (a : Netlist ℕ) (net : ℕ) → is_free a.gates net ≡ false → IsGateNet a net
gate_net a net e = let d = driver_of net a.gates e in let p = place_of a.gates d.0 d.1 in (p.0, (d.0, p.1, d.2))

flops_fit : (a : Netlist ℕ) → AllByRecursion (λ f. IsQ a f.q) a.flops
flops_fit a = to_all (λ (f : Flop ℕ). IsQ a f.q) a.flops (λ f c. let p = place_of a.flops f c in (p.0, (f, p.1, refl)))

sources_fit : (a : Netlist ℕ) (reading : List Bool) → AllByRecursion (Fits a) (source_cells a reading)
sources_fit a reading =
    all_join (Fits a) (map (bare_cell Input) a.inputs) (map (λ (f : Flop ℕ). bare_cell Split f.q) (those reading a.flops))
    (all_map_back (Fits a) (IsInput a) (bare_cell Input) (λ net h. h) a.inputs (to_all (IsInput a) a.inputs (λ net c. place_of a.inputs net c)))
    (all_map_back (Fits a) (λ (f : Flop ℕ). IsQ a f.q) (λ f. bare_cell Split f.q) (λ f h. h) (those reading a.flops) (all_those (λ (f : Flop ℕ). IsQ a f.q) reading a.flops (flops_fit a)))

observers_fit : (a : Netlist ℕ) (cuts : List ℕ) (reading : List Bool) → AllByRecursion (λ net. is_free a.gates net ≡ false) cuts → AllByRecursion (Fits a) (observer_cells a cuts reading)
observers_fit a cuts reading driven =
    let outputs = filter (λ net. not (is_stop_with a.gates cuts net)) a.outputs in
    let Q : Flop ℕ → Type 0 = λ f. IsQ a f.q in
    all_join (Fits a) (map (λ (f : Flop ℕ). bare_cell State f.q) (those (map not reading) a.flops)) _ (all_map_back (Fits a) Q (λ f. bare_cell State f.q) (λ f h. h) (those (map not reading) a.flops) (all_those Q (map not reading) a.flops (flops_fit a)))
    (all_join (Fits a) (map (λ (f : Flop ℕ). bare_cell Watch f.q) (those reading a.flops)) _ (all_map_back (Fits a) Q (λ f. bare_cell Watch f.q) (λ f h. h) (those reading a.flops) (all_those Q reading a.flops (flops_fit a)))
    (all_join (Fits a) (map (bare_cell Cut) cuts) (map (bare_cell Output) outputs)
    (all_map_back (Fits a) (λ net. is_free a.gates net ≡ false) (bare_cell Cut) (λ net h. gate_net a net h) cuts driven)
    (all_map_back (Fits a) (λ net. IsGateNet a net × Contains a.outputs net) (bare_cell Output) (λ net h. h) outputs
    (to_all (λ net. IsGateNet a net × Contains a.outputs net) outputs
    (λ net c. let k = of_filter (λ m. not (is_stop_with a.gates cuts m)) a.outputs net c in (gate_net a net (free_of (is_free a.gates net) (list_any (nat_eq net) cuts) (off (is_stop_with a.gates cuts net) k.1)), k.0))))))

pub cells_fit : (a : Netlist ℕ) (cuts : List ℕ) (draft : DraftValue) (most : ℕ) → AreCells a cuts draft → AllByRecursion (λ net. is_free a.gates net ≡ false) cuts
    → AllByRecursion (Fits a) (flat_map (λ (g : RegisterValue). g.cells) (grouped_of draft most).registers)
cells_fit a cuts draft most are driven =
    let long = zip_long (HasLeavesWith a cuts) draft.observers draft.leaves are.leaves_are in
    let chain = flat_map (λ (g : RegisterValue). g.cells) (grouped_of draft most).registers in
    let all = all_join (Fits a) draft.sources draft.observers (subst (AllByRecursion (Fits a)) (sym are.sources_are) (sources_fit a are.reading)) (subst (AllByRecursion (Fits a)) (sym are.observers_are) (observers_fit a cuts are.reading driven)) in
    let moved = IsPermutation-sym (draft.sources ++ draft.observers) chain (chain_once draft most long) in
    to_all (Fits a) chain (λ c h. of_all (Fits a) (draft.sources ++ draft.observers) c all (Contains-permutation chain (draft.sources ++ draft.observers) c moved h))
