-- Facts of all drafted cells, kind by kind.
use Rattle.std.proofs.Common.{◌≡◌, ℕ, Bool, false, true, not, ◌||◌, List, [], ◌∷◌, map, filter, refl, Contains}
use Rattle.std.specs.List.{AllByRecursion, list_any}
use Rattle.bb_base.proofs.Contained.{to_all}
use Rattle.bb_base.proofs.Lists.{all_join, all_map_back}
use Rattle.bb_base.specs.Net.{Flop, Netlist}
use Rattle.bb_terms.specs.Cuts.{is_stop_with}
use Rattle.bb_terms.specs.declared.kind.Kind.TheVariants.{Input, State, Split, Cut, Watch, Output}
use Rattle.bb_terms.specs.declared.plan.Cell.{Cell}
use Rattle.bb_terms.specs.Kinds.{only_generates}
use Rattle.bb_reg.specs.Draft.{bare_cell, those, source_cells, observer_cells}
use Rattle.bb_reg.specs.Chosen.{Seen, seen_cells}

each_item : {X Y : Type 0} (P : Y → Type 0) (f : X → Y) → ((x : X) → P (f x)) → (xs : List X) → AllByRecursion P (map f xs)
each_item P f h [] = tt
each_item P f h (x ∷ xs) = (h x, each_item P f h xs)

pub sources_all : (P : Cell → Type 0) (a : Netlist ℕ) (reading : List Bool) → ((net : ℕ) → P (bare_cell Input net)) → ((f : Flop ℕ) → P (bare_cell Split f.q)) → AllByRecursion P (source_cells a reading)
sources_all P a reading input split =
    all_join P (map (bare_cell Input) a.inputs) (map (λ (f : Flop ℕ). bare_cell Split f.q) (those reading a.flops)) (each_item P (bare_cell Input) input a.inputs) (each_item P (λ (f : Flop ℕ). bare_cell Split f.q) split (those reading a.flops))

pub observers_all :
    (P : Cell → Type 0) (a : Netlist ℕ) (cuts : List ℕ) (reading : List Bool) → AllByRecursion (λ f. P (bare_cell State f.q)) (those (map not reading) a.flops) → ((f : Flop ℕ) → P (bare_cell Watch f.q))
    → ((net : ℕ) → Contains cuts net → P (bare_cell Cut net)) → ((net : ℕ) → P (bare_cell Output net)) → AllByRecursion P (observer_cells a cuts reading)
observers_all P a cuts reading state watch cut output =
    let outputs = filter (λ net. not (is_stop_with a.gates cuts net)) a.outputs in
    all_join P (map (λ (f : Flop ℕ). bare_cell State f.q) (those (map not reading) a.flops)) _ (all_map_back P (λ (f : Flop ℕ). P (bare_cell State f.q)) (λ f. bare_cell State f.q) (λ f h. h) (those (map not reading) a.flops) state)
    (all_join P (map (λ (f : Flop ℕ). bare_cell Watch f.q) (those reading a.flops)) _ (each_item P (λ (f : Flop ℕ). bare_cell Watch f.q) watch (those reading a.flops))
    (all_join P (map (bare_cell Cut) cuts) (map (bare_cell Output) outputs) (all_map_back P (λ net. P (bare_cell Cut net)) (bare_cell Cut) (λ net h. h) cuts (to_all (λ net. P (bare_cell Cut net)) cuts cut)) (each_item P (bare_cell Output) output outputs)))

pub all_of : {X : Type 0} (P : X → Type 0) → ((x : X) → P x) → (xs : List X) → AllByRecursion P xs
all_of P h [] = tt
all_of P h (x ∷ xs) = (h x, all_of P h xs)

-- sources generate alone, and observers don't
pub sources_generate : (a : Netlist ℕ) (reading : List Bool) → AllByRecursion (λ c. only_generates c.kind ≡ true) (source_cells a reading)
sources_generate a reading = sources_all (λ c. only_generates c.kind ≡ true) a reading (λ net. refl) (λ f. refl)

pub observers_observe : (a : Netlist ℕ) (cuts : List ℕ) (reading : List Bool) → AllByRecursion (λ c. only_generates c.kind ≡ false) (observer_cells a cuts reading)
observers_observe a cuts reading = observers_all (λ c. only_generates c.kind ≡ false) a cuts reading (all_of (λ (f : Flop ℕ). only_generates State ≡ false) (λ f. refl) (those (map not reading) a.flops)) (λ f. refl) (λ net c. refl) (λ net. refl)

pub seen_all : (P : Cell → Type 0) (cells : List Cell) (leaves : List (List ℕ)) → AllByRecursion P cells → AllByRecursion (λ o. P o.cell) (seen_cells cells leaves)
seen_all P [] leaves h = tt
seen_all P (c ∷ cells) [] h = tt
seen_all P (c ∷ cells) (l ∷ leaves) h = (h.0, seen_all P cells leaves h.1)

pub none_generates : (group : List Seen) → AllByRecursion (λ o. only_generates o.cell.kind ≡ false) group → list_any (λ c. only_generates c.kind) (map (λ o. o.cell) group) ≡ false
none_generates [] h = refl
none_generates (o ∷ group) h = (λ k. h.0 k || none_generates group h.1 k)
