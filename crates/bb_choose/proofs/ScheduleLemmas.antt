-- The registers that may compact are those of observers, numbered behind those of sources.
use Rattle.std.proofs.Common.{arith, ◌≡◌, ℕ, suc, ◌+◌, ◌<◌, ◌≤◌, ◌||◌, nat_lt, not, ◌&&◌, Bool, true, false, List, [], ◌∷◌, ◌++◌, length, map, take, drop, refl, sym, ap, subst, ◌∙◌, get_or, if◌then◌else◌, length-append, slice_get, Some, Contains}
use Rattle.std.specs.Option.{option_map}
use Rattle.std.specs.List.{AllByRecursion, list_any, flat_map, enumerate_from}
use Rattle.std.proofs.lemmas.List.{drop-append-le, length-drop}
use Rattle.std.proofs.lemmas.List.Folds.{flat_map-map}
use Rattle.std.proofs.lemmas.List.FromFn.{length-enumerate_from, get_or-enumerate_from}
use Rattle.std.proofs.lemmas.List.Sorted.{length_permutation}
use Rattle.std.proofs.lemmas.Option.{slice_get-get_or, slice_get-map}
use Rattle.bb_base.proofs.Contained.{to_all}
use Rattle.bb_base.proofs.Lists.{both_map, get_back, length_map}
use Rattle.bb_base.specs.Net.{Netlist}
use Rattle.bb_terms.specs.declared.plan.Cell.{Cell}
use Rattle.bb_terms.specs.Kinds.{only_generates}
use Rattle.bb_terms.specs.Plan.{RegisterValue, has_input}
use Rattle.bb_reg.specs.Draft.{DraftValue, AreCells}
use Rattle.bb_reg.specs.Chosen.{Seen, clash, fitted, seen_cells, in_runs, in_registers, register_of, grouped_of, compacting_from}
use Rattle.bb_reg.proofs.ApartLemmas.{fitted_keeps}
use Rattle.bb_reg.proofs.NaturalLemmas.{fitted_all}
use Rattle.bb_reg.proofs.OnceLemmas.{fitted_once}
use Rattle.bb_choose.proofs.DraftedLemmas.{sources_generate, observers_observe, seen_all, none_generates}

-- registers with an Input or Split cell are passed over
passed : (r : ℕ) (front back : List RegisterValue) (bare leaves : List (List ℕ)) → AllByRecursion (λ g. has_input g ≡ true) front → length bare ≡ length (flat_map (λ (g : RegisterValue). g.cells) front)
    → compacting_from r (front ++ back) (bare ++ leaves) ≡ compacting_from (length front + r) back leaves
passed r [] back [] leaves all long = let n : r ≡ 0 + r = omega arith in ap (λ k. compacting_from k back leaves) n
passed r [] back (b ∷ bare) leaves all long = absurd (omega (arith, long))
passed r (g ∷ front) back bare leaves all long =
    let n = length g.cells in
    let parts = length-append g.cells (flat_map (λ (g : RegisterValue). g.cells) front) in
    let total : length bare ≡ n + length (flat_map (λ (g : RegisterValue). g.cells) front) = long ∙ parts in
    let left = drop-append-le n bare leaves (omega (arith, total)) in
    let rest : length (drop n bare) ≡ length (flat_map (λ (g : RegisterValue). g.cells) front) = let cut = length-drop n bare in omega (arith, cut, total) in
    let next : length front + suc r ≡ suc (length front) + r = omega arith in
    (λ i. if all.0 i then compacting_from (suc r) (front ++ back) (drop n (bare ++ leaves)) else (r, seen_cells g.cells (take n (bare ++ leaves))) ∷ compacting_from (suc r) (front ++ back) (drop n (bare ++ leaves)))
    ∙ ap (compacting_from (suc r) (front ++ back)) left
    ∙ passed (suc r) front back (drop n bare) leaves all.1 rest
    ∙ ap (λ k. compacting_from k back leaves) next

-- observers take their own leaves, and leave those behind
own_leaves : (group : List Seen) (more : List (List ℕ)) → seen_cells (map (λ o. o.cell) group) (take (length (map (λ (o : Seen). o.cell) group)) (map (λ o. o.leaves) group ++ more)) ≡ group
own_leaves [] more = refl
own_leaves (o ∷ group) more = ap (λ k. o ∷ k) (own_leaves group more)

other_leaves : (group : List Seen) (more : List (List ℕ)) → drop (length (map (λ (o : Seen). o.cell) group)) (map (λ o. o.leaves) group ++ more) ≡ more
other_leaves [] more = refl
other_leaves (o ∷ group) more = other_leaves group more

-- a register of observers
abbrev pub observing_register : List Seen → RegisterValue
observing_register group = register_of (map (λ o. o.cell) group)

-- registers of observers may compact
numbered : (r : ℕ) (groups : List (List Seen)) → AllByRecursion (AllByRecursion (λ (o : Seen). only_generates o.cell.kind ≡ false)) groups
    → compacting_from r (map observing_register groups) (flat_map (map (λ o. o.leaves)) groups) ≡ enumerate_from r groups
numbered r [] all = refl
numbered r (group ∷ groups) all =
    let none : has_input (observing_register group) ≡ false = none_generates group all.0 in
    let n = length (map (λ (o : Seen). o.cell) group) in
    let more = flat_map (map (λ (o : Seen). o.leaves)) groups in
    let leaves = map (λ (o : Seen). o.leaves) group ++ more in
    let next : suc r ≡ r + 1 = omega arith in
    (λ i. if none i then compacting_from (suc r) (map observing_register groups) (drop n leaves) else (r, seen_cells (map (λ o. o.cell) group) (take n leaves)) ∷ compacting_from (suc r) (map observing_register groups) (drop n leaves))
    ∙ (λ i. (r, own_leaves group more i) ∷ compacting_from (next i) (map observing_register groups) (other_leaves group more i))
    ∙ ap (λ k. (r, group) ∷ k) (numbered (r + 1) groups all.1)

-- a run of sources has an Input or Split cell
generates : (run : List Cell) → 1 ≤ length run → AllByRecursion (λ c. only_generates c.kind ≡ true) run → list_any (λ c. only_generates c.kind) run ≡ true
generates [] some all = absurd (omega (arith, some))
generates (c ∷ run) some all = ap (λ b. b || list_any (λ (c : Cell). only_generates c.kind) run) all.0

-- no group is empty
pub some_each : {X : Type 0} (fits : X → List X → Bool) (xs : List X) → AllByRecursion (λ group. 1 ≤ length group) (fitted fits xs)
some_each {X} fits xs = fitted_keeps (λ (group : List X). 1 ≤ length group) fits (λ x. omega arith) (λ x group h e. let long = length-append group (x ∷ []) in omega (arith, long)) xs

-- a draft's registers of sources and of observers
abbrev pub sources_of : DraftValue → ℕ → List RegisterValue
sources_of draft most = map register_of (in_runs most draft.sources)

abbrev pub groups_of : DraftValue → ℕ → List (List Seen)
groups_of draft most = in_registers most (seen_cells draft.observers draft.leaves)

-- observers aren't sources alone
observers_clear : (a : Netlist ℕ) (cuts : List ℕ) (draft : DraftValue) (most : ℕ) → AreCells a cuts draft → AllByRecursion (AllByRecursion (λ (o : Seen). only_generates o.cell.kind ≡ false)) (groups_of draft most)
observers_clear a cuts draft most are =
    let seen = seen_cells draft.observers draft.leaves in
    fitted_all (λ (o : Seen). only_generates o.cell.kind ≡ false) (λ o register. nat_lt (length register) most && not (list_any (clash o) register)) seen
    (seen_all (λ c. only_generates c.kind ≡ false) draft.observers draft.leaves (subst (AllByRecursion (λ (c : Cell). only_generates c.kind ≡ false)) (sym are.observers_are) (observers_observe a cuts are.reading)))

-- the registers of observers have no Input or Split cell
pub each_observes : (a : Netlist ℕ) (cuts : List ℕ) (draft : DraftValue) (most : ℕ) → AreCells a cuts draft → AllByRecursion (λ x. has_input (observing_register x.1) ≡ false) (enumerate_from (length (sources_of draft most)) (groups_of draft most))
each_observes a cuts draft most are = on (length (sources_of draft most)) (groups_of draft most) (observers_clear a cuts draft most are)
  where
    on : (n : ℕ) (groups : List (List Seen)) → AllByRecursion (AllByRecursion (λ (o : Seen). only_generates o.cell.kind ≡ false)) groups → AllByRecursion (λ x. has_input (observing_register x.1) ≡ false) (enumerate_from n groups)
    on n [] h = tt
    on n (group ∷ groups) h = (none_generates group h.0, on (n + 1) groups h.1)

-- those that may compact are the registers of observers
pub compacting_are : (a : Netlist ℕ) (cuts : List ℕ) (draft : DraftValue) (most : ℕ) → AreCells a cuts draft
    → compacting_from 0 (grouped_of draft most).registers (grouped_of draft most).leaves ≡ enumerate_from (length (sources_of draft most)) (groups_of draft most)
compacting_are a cuts draft most are =
    let fits_run : Cell → List Cell → Bool = λ c run. nat_lt (length run) most in
    let G : Cell → Type 0 = λ c. only_generates c.kind ≡ true in
    let runs = in_runs most draft.sources in
    let sources = fitted_all G fits_run draft.sources (subst (AllByRecursion G) (sym are.sources_are) (sources_generate a are.reading)) in
    let inputs : AllByRecursion (λ g. has_input g ≡ true) (sources_of draft most) =
    both_map (λ (g : RegisterValue). has_input g ≡ true) (λ (run : List Cell). 1 ≤ length run) (AllByRecursion G) register_of (λ run some all. generates run some all) runs (some_each fits_run draft.sources) sources in
    let long : length (map {B = List ℕ} (λ c. []) draft.sources) ≡ length (flat_map (λ (g : RegisterValue). g.cells) (sources_of draft most)) =
    length_map (λ (c : Cell). []) draft.sources ∙ sym (length_permutation draft.sources (flat_map (λ run. run) runs) (fitted_once fits_run draft.sources)) ∙ ap length (sym (flat_map-map (λ (g : RegisterValue). g.cells) register_of runs)) in
    let n : length (sources_of draft most) + 0 ≡ length (sources_of draft most) = omega arith in
    passed 0 (sources_of draft most) (map observing_register (groups_of draft most)) (map (λ c. []) draft.sources) (flat_map (map (λ o. o.leaves)) (groups_of draft most)) inputs long
    ∙ ap (λ k. compacting_from k (map observing_register (groups_of draft most)) (flat_map (map (λ o. o.leaves)) (groups_of draft most))) n
    ∙ numbered (length (sources_of draft most)) (groups_of draft most) (observers_clear a cuts draft most are)

-- the number of such a register is its place
pub record IsNumbered (draft : DraftValue) (most : ℕ) (x : ℕ × List Seen) : Type 0 where
  pub place : ℕ
  pub number : x.0 ≡ length (sources_of draft most) + place
  pub stands : slice_get (groups_of draft most) place ≡ Some x.1

pub each_numbered : (draft : DraftValue) (most : ℕ) → AllByRecursion (IsNumbered draft most) (enumerate_from (length (sources_of draft most)) (groups_of draft most))
each_numbered draft most = to_all (IsNumbered draft most) (enumerate_from (length (sources_of draft most)) (groups_of draft most)) one
  where
    one : (x : ℕ × List Seen) → Contains (enumerate_from (length (sources_of draft most)) (groups_of draft most)) x → IsNumbered draft most x
    one x c =
        let n = length (sources_of draft most) in
        let low : c.0 < length (groups_of draft most) = let long = length-enumerate_from n (groups_of draft most) in omega (arith, long, c.1) in
        let is : x ≡ (n + c.0, get_or (groups_of draft most) c.0 x.1) = sym c.2 ∙ get_or-enumerate_from n (groups_of draft most) c.0 x low in
        record { place = c.0; number = ap (λ (y : ℕ × List Seen). y.0) is; stands = slice_get-get_or (groups_of draft most) c.0 x.1 low ∙ ap Some (sym (ap (λ (y : ℕ × List Seen). y.1) is)) }

-- the register of that number
pub register_there : (draft : DraftValue) (most : ℕ) (x : ℕ × List Seen) → IsNumbered draft most x → slice_get (grouped_of draft most).registers x.0 ≡ Some (observing_register x.1)
register_there draft most x h =
    ap (slice_get (grouped_of draft most).registers) h.number ∙ get_back (sources_of draft most) (map observing_register (groups_of draft most)) h.place
    ∙ slice_get-map observing_register (groups_of draft most) h.place ∙ ap (option_map observing_register) h.stands
