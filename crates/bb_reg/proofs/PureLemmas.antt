-- A chosen register has sources that observe nothing, and no others, or none of them.
use Rattle.std.proofs.Common.{◌≡◌, ℕ, Bool, true, false, not, ◌&&◌, ◌||◌, nat_lt, List, [], ◌∷◌, length, map, filter, refl, sym, ◌∙◌, subst}
use Rattle.std.specs.List.{AllByRecursion, list_any, list_all}
use Rattle.bb_base.proofs.Lists.{all_join, all_map_back}
use Rattle.bb_base.specs.Net.{Flop, Netlist}
use Rattle.bb_terms.specs.Cuts.{is_stop_with}
use Rattle.bb_terms.specs.declared.kind.Kind.TheVariants.{Input, State, Split, Cut, Watch, Output}
use Rattle.bb_terms.specs.declared.plan.Cell.{Cell}
use Rattle.bb_terms.specs.Kinds.{only_generates}
use Rattle.bb_terms.specs.Rules.{IsPure}
use Rattle.bb_reg.specs.Draft.{DraftValue, AreCells, bare_cell, those, source_cells, observer_cells}
use Rattle.bb_reg.specs.Chosen.{Seen, clash, in_runs, in_registers, seen_cells, register_of, grouped_of}
use Rattle.bb_reg.proofs.NaturalLemmas.{fitted_all}

on_each : {X Y : Type 0} (P : Y → Type 0) (f : X → Y) → ((x : X) → P (f x)) → (xs : List X) → AllByRecursion P (map f xs)
on_each P f h [] = tt
on_each P f h (x ∷ xs) = (h x, on_each P f h xs)

sources_generate : (a : Netlist ℕ) (reading : List Bool) → AllByRecursion (λ c. only_generates c.kind ≡ true) (source_cells a reading)
sources_generate a reading =
    all_join (λ (c : Cell). only_generates c.kind ≡ true) (map (bare_cell Input) a.inputs) (map (λ (f : Flop ℕ). bare_cell Split f.q) (those reading a.flops))
    (on_each (λ (c : Cell). only_generates c.kind ≡ true) (bare_cell Input) (λ net. refl) a.inputs)
    (on_each (λ (c : Cell). only_generates c.kind ≡ true) (λ (f : Flop ℕ). bare_cell Split f.q) (λ f. refl) (those reading a.flops))

observers_observe : (a : Netlist ℕ) (cuts : List ℕ) (reading : List Bool) → AllByRecursion (λ c. only_generates c.kind ≡ false) (observer_cells a cuts reading)
observers_observe a cuts reading =
    let P : Cell → Type 0 = λ c. only_generates c.kind ≡ false in
    let outputs = filter (λ net. not (is_stop_with a.gates cuts net)) a.outputs in
    all_join P (map (λ (f : Flop ℕ). bare_cell State f.q) (those (map not reading) a.flops)) _ (on_each P (λ (f : Flop ℕ). bare_cell State f.q) (λ f. refl) (those (map not reading) a.flops))
    (all_join P (map (λ (f : Flop ℕ). bare_cell Watch f.q) (those reading a.flops)) _ (on_each P (λ (f : Flop ℕ). bare_cell Watch f.q) (λ f. refl) (those reading a.flops))
    (all_join P (map (bare_cell Cut) cuts) (map (bare_cell Output) outputs) (on_each P (bare_cell Cut) (λ net. refl) cuts) (on_each P (bare_cell Output) (λ net. refl) outputs)))

seen_observe : (cells : List Cell) (leaves : List (List ℕ)) → AllByRecursion (λ c. only_generates c.kind ≡ false) cells → AllByRecursion (λ o. only_generates o.cell.kind ≡ false) (seen_cells cells leaves)
seen_observe [] leaves h = tt
seen_observe (c ∷ cells) [] h = tt
seen_observe (c ∷ cells) (l ∷ leaves) h = (h.0, seen_observe cells leaves h.1)

all_generate : (cells : List Cell) → AllByRecursion (λ c. only_generates c.kind ≡ true) cells → list_all (λ c. only_generates c.kind) cells ≡ true
all_generate [] h = refl
all_generate (c ∷ cells) h = (λ k. h.0 k && all_generate cells h.1 k)

none_generates : (group : List Seen) → AllByRecursion (λ o. only_generates o.cell.kind ≡ false) group → list_any (λ c. only_generates c.kind) (map (λ o. o.cell) group) ≡ false
none_generates [] h = refl
none_generates (o ∷ group) h = (λ k. h.0 k || none_generates group h.1 k)

pub registers_pure : (a : Netlist ℕ) (cuts : List ℕ) (draft : DraftValue) (most : ℕ) → AreCells a cuts draft → AllByRecursion IsPure (grouped_of draft most).registers
registers_pure a cuts draft most are =
    let seen = seen_cells draft.observers draft.leaves in
    let G : Cell → Type 0 = λ c. only_generates c.kind ≡ true in
    let O : Seen → Type 0 = λ o. only_generates o.cell.kind ≡ false in
    let sources = subst (λ cs. AllByRecursion (λ (c : Cell). only_generates c.kind ≡ true) cs) (sym are.sources_are) (sources_generate a are.reading) in
    let observers = seen_observe draft.observers draft.leaves (subst (λ cs. AllByRecursion (λ (c : Cell). only_generates c.kind ≡ false) cs) (sym are.observers_are) (observers_observe a cuts are.reading)) in
    all_join IsPure (map register_of (in_runs most draft.sources)) (map (λ group. register_of (map (λ o. o.cell) group)) (in_registers most seen))
    (all_map_back IsPure (AllByRecursion G) register_of (λ run h e. all_generate run h) (in_runs most draft.sources) (fitted_all G (λ c run. nat_lt (length run) most) draft.sources sources))
    (all_map_back IsPure (AllByRecursion O) (λ group. register_of (map (λ o. o.cell) group)) (λ group h e. let no : true ≡ false = sym e ∙ none_generates group h in absurd (cc no))
    (in_registers most seen) (fitted_all O (λ o register. nat_lt (length register) most && not (list_any (clash o) register)) seen observers))
