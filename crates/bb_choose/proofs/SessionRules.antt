-- Sessions list registers that may compact, each once, ascending.
use Rattle.std.proofs.Common.{arith, ◌≡◌, ℕ, zero, suc, ◌+◌, ◌<◌, ◌≤◌, nat_lt, ◌&&◌, not, Bool, true, false, List, [], ◌∷◌, ◌++◌, length, map, take, drop, ◌⊎◌, inl, inr, refl, sym, ap, subst, ◌∙◌, get_or, if◌then◌else◌, length-append, slice_get, Some, Contains}
use Rattle.std.specs.Prelude.{AllPairs}
use Rattle.std.specs.List.{AllByRecursion, fold, list_any, flat_map, enumerate_from}
use Rattle.std.specs.List.Sorted.{IsStrictlyIncreasing}
use Rattle.std.proofs.lemmas.List.Elements.{All-from_recursion, Contains-append_cases}
use Rattle.std.proofs.lemmas.List.Quantifiers.{all_pairs_push}
use Rattle.std.proofs.lemmas.List.FromFn.{length-enumerate_from}
use Rattle.std.proofs.lemmas.List.Sorted.{length_permutation, Contains-permutation}
use Rattle.bb_base.proofs.Contained.{here, there, none_in, to_all, contains_map, at_place}
use Rattle.bb_base.proofs.Lists.{all_join, all_map_back, get_map, length_map}
use Rattle.bb_base.specs.Net.{Netlist, driven}
use Rattle.bb_terms.specs.Paths.{is_free}
use Rattle.bb_terms.specs.declared.plan.Cell.{Cell}
use Rattle.bb_terms.specs.Plan.{RegisterValue, PlanValue, has_input}
use Rattle.bb_terms.specs.Rules.{Holds, Sessions, Compacted, MayCompact}
use Rattle.bb_reg.specs.Draft.{DraftValue}
use Rattle.bb_reg.specs.Chosen.{Seen, seen_cells, clash, conflict, first_fit, fitted, grouped_of, numbered_sessions, compacting_from}
use Rattle.bb_reg.proofs.NaturalLemmas.{fitted_all}
use Rattle.bb_reg.proofs.OnceLemmas.{fitted_once}
use Rattle.bb_reg.proofs.CellLemmas.{few_observers}
use Rattle.bb_reg.proofs.SeenLemmas.{get_map as get_or_map}
use Rattle.bb_choose.specs.ChosenPlan.{AreCutsOf, IsSameRegister, IsChosen}
use Rattle.bb_choose.proofs.AlikeLemmas.{zip_forth, zip_back}
use Rattle.bb_choose.proofs.ScheduleLemmas.{observing_register, some_each, sources_of, groups_of, compacting_are, IsNumbered, each_numbered, each_observes, register_there}
use Rattle.bb_choose.proofs.SameCells.{any_alike}
use Rattle.bb_terms.specs.Kinds.{only_generates}

-- numbered registers, in their order, and in sessions
abbrev pub numbered_of : DraftValue → ℕ → List (ℕ × List Seen)
numbered_of draft most = enumerate_from (length (sources_of draft most)) (groups_of draft most)

abbrev pub sessions_of : DraftValue → ℕ → List (List (ℕ × List Seen))
sessions_of draft most = numbered_sessions (numbered_of draft most)

abbrev pub fits_session : ℕ × List Seen → List (ℕ × List Seen) → Bool
fits_session x session = not (list_any (λ (y : ℕ × List Seen). conflict x.1 y.1) session)

-- the plan's sessions are their numbers
pub sessions_are : (a : Netlist ℕ) (cuts : List ℕ) (most : ℕ) (p : PlanValue) (h : IsChosen a cuts most p) → p.sessions ≡ map (map (λ x. x.0)) (sessions_of h.draft most)
sessions_are a cuts most p h = h.sessions ∙ ap (λ pairs. map (map (λ (x : ℕ × List Seen). x.0)) (numbered_sessions pairs)) (compacting_are a cuts h.draft most h.cells)

-- a register that may compact is among those that do
compacting_there : (r : ℕ) (registers : List RegisterValue) (leaves : List (List ℕ)) (k : ℕ) (g : RegisterValue) → slice_get registers k ≡ Some g → has_input g ≡ false → (seen : List Seen) × Contains (compacting_from r registers leaves) (r + k, seen)
compacting_there r [] leaves k g at may = absurd (cc at)
compacting_there r (f ∷ registers) leaves zero g at may =
    let same : f ≡ g = cc at in
    let no : has_input f ≡ false = ap has_input same ∙ may in
    let seen = seen_cells f.cells (take (length f.cells) leaves) in
    let rest = compacting_from (suc r) registers (drop (length f.cells) leaves) in
    let n : r ≡ r + 0 = omega arith in
    (seen, subst (λ (b : Bool). Contains (if b then rest else (r, seen) ∷ rest) (r + 0, seen)) (sym no) (subst (λ m. Contains ((r, seen) ∷ rest) (m, seen)) n (here (r, seen) rest)))
compacting_there r (f ∷ registers) leaves (suc k) g at may = by (has_input f) (compacting_there (suc r) registers (drop (length f.cells) leaves) k g at may)
  where
    by : (b : Bool) → (seen : List Seen) × Contains (compacting_from (suc r) registers (drop (length f.cells) leaves)) (suc r + k, seen)
        → (seen : List Seen) × Contains (if b then compacting_from (suc r) registers (drop (length f.cells) leaves) else (r, seen_cells f.cells (take (length f.cells) leaves)) ∷ compacting_from (suc r) registers (drop (length f.cells) leaves)) (r + suc k, seen)
    by true rest = let n : suc r + k ≡ r + suc k = omega arith in (rest.0, subst (λ m. Contains (compacting_from (suc r) registers (drop (length f.cells) leaves)) (m, rest.0)) n rest.1)
    by false rest = let n : suc r + k ≡ r + suc k = omega arith in
        (rest.0, there (r, seen_cells f.cells (take (length f.cells) leaves)) _ (r + suc k, rest.0) (subst (λ m. Contains (compacting_from (suc r) registers (drop (length f.cells) leaves)) (m, rest.0)) n rest.1))

-- an item of joined lists stands in one of them
in_one : {X : Type 0} (groups : List (List X)) (x : X) → Contains (flat_map (λ group. group) groups) x → (group : List X) × Contains groups group × Contains group x
in_one [] x c = absurd (none_in x c)
in_one {X} (group ∷ groups) x c = by (Contains-append_cases group (flat_map (λ group. group) groups) x c) (in_one groups x)
  where
    by : Contains group x ⊎ Contains (flat_map (λ group. group) groups) x → (Contains (flat_map (λ group. group) groups) x → (own : List X) × Contains groups own × Contains own x) → (own : List X) × Contains (group ∷ groups) own × Contains own x
    by (inl c) rest = (group, here group groups, c)
    by (inr c) rest = let more = rest c in (more.0, there group groups more.0 more.1, more.2)

-- each register that may compact is in a session
pub compacted : (a : Netlist ℕ) (cuts : List ℕ) (most : ℕ) (p : PlanValue) → IsChosen a cuts most p → Holds a p Compacted
compacted a cuts most p h r g at may =
    let e = zip_forth IsSameRegister p.registers (grouped_of h.draft most).registers r g h.registers at in
    let no : has_input e.0 ≡ false = sym (any_alike only_generates g.cells e.0.cells e.2) ∙ may in
    let x = compacting_there 0 (grouped_of h.draft most).registers (grouped_of h.draft most).leaves r e.0 e.1 no in
    let pairs = compacting_from 0 (grouped_of h.draft most).registers (grouped_of h.draft most).leaves in
    let n : 0 + r ≡ r = omega arith in
    let all = Contains-permutation pairs (flat_map (λ group. group) (numbered_sessions pairs)) (r, x.0) (fitted_once fits_session pairs) (subst (λ m. Contains pairs (m, x.0)) n x.1) in
    let one = in_one (numbered_sessions pairs) (r, x.0) all in
    let number : List (ℕ × List Seen) → List ℕ = map (λ x. x.0) in
    (number one.0, subst (λ sessions. Contains sessions (number one.0)) (sym h.sessions) (contains_map number (numbered_sessions pairs) one.0 one.1), contains_map (λ (x : ℕ × List Seen). x.0) one.0 (r, x.0) one.2)

-- each item comes before those behind it
abbrev pub Ordered : {X : Type 0} → (X → X → Type 0) → List X → Type 0
Ordered R [] = Unit {0}
Ordered R (x ∷ xs) = AllByRecursion (R x) xs × Ordered R xs

-- first fit keeps the order of what comes
fitted_ordered : {X : Type 0} (R : X → X → Type 0) (fits : X → List X → Bool) (xs : List X) → Ordered R xs → AllByRecursion (AllPairs R) (fitted fits xs)
fitted_ordered {X} R fits xs ordered = apart (fold (first_fit fits) [] xs) (on [] xs tt ordered)
  where
    Left : List X → List X → Type 0
    Left xs group = AllPairs R group × AllByRecursion (λ y. AllByRecursion (R y) xs) group

    fewer : (x : X) (xs group : List X) → AllByRecursion (λ y. AllByRecursion (R y) (x ∷ xs)) group → AllByRecursion (λ y. AllByRecursion (R y) xs) group
    fewer x xs [] h = tt
    fewer x xs (y ∷ group) h = (h.0.1, fewer x xs group h.1)

    firsts : (x : X) (xs group : List X) → AllByRecursion (λ y. AllByRecursion (R y) (x ∷ xs)) group → AllByRecursion (λ y. R y x) group
    firsts x xs [] h = tt
    firsts x xs (y ∷ group) h = (h.0.0, firsts x xs group h.1)

    all_fewer : (x : X) (xs : List X) (groups : List (List X)) → AllByRecursion (λ group. AllPairs R group × AllByRecursion (λ y. AllByRecursion (R y) (x ∷ xs)) group) groups → AllByRecursion (λ group. AllPairs R group × AllByRecursion (λ y. AllByRecursion (R y) xs) group) groups
    all_fewer x xs [] h = tt
    all_fewer x xs (group ∷ groups) h = ((h.0.0, fewer x xs group h.0.1), all_fewer x xs groups h.1)

    single : (x : X) → AllPairs R (x ∷ [])
    single x i j d less low = absurd (omega (arith, less, low))

    one : (groups : List (List X)) (x : X) (xs : List X) → AllByRecursion (R x) xs → AllByRecursion (λ group. AllPairs R group × AllByRecursion (λ y. AllByRecursion (R y) (x ∷ xs)) group) groups
        → AllByRecursion (λ group. AllPairs R group × AllByRecursion (λ y. AllByRecursion (R y) xs) group) (first_fit fits groups x)
    one [] x xs first h = ((single x, (first, tt)), tt)
    one (group ∷ more) x xs first h = by (fits x group) (one more x xs first h.1)
      where
        by : (b : Bool) → AllByRecursion (λ group. AllPairs R group × AllByRecursion (λ y. AllByRecursion (R y) xs) group) (first_fit fits more x)
            → AllByRecursion (λ group. AllPairs R group × AllByRecursion (λ y. AllByRecursion (R y) xs) group) (if b then (group ++ x ∷ []) ∷ more else group ∷ first_fit fits more x)
        by true rest =
            ((all_pairs_push R group x h.0.0 (λ k d low. All-from_recursion (λ y. R y x) group (firsts x xs group h.0.1) k d low), all_join (λ y. AllByRecursion (R y) xs) group (x ∷ []) (fewer x xs group h.0.1) (first, tt)), all_fewer x xs more h.1)
        by false rest = ((h.0.0, fewer x xs group h.0.1), rest)

    on : (groups : List (List X)) (xs : List X) → AllByRecursion (λ group. AllPairs R group × AllByRecursion (λ y. AllByRecursion (R y) xs) group) groups → Ordered R xs
        → AllByRecursion (λ group. AllPairs R group × AllByRecursion (λ y. AllByRecursion (R y) []) group) (fold (first_fit fits) groups xs)
    on groups [] h ordered = h
    on groups (x ∷ xs) h ordered = on (first_fit fits groups x) xs (one groups x xs ordered.0 h) ordered.1

    apart : (groups : List (List X)) → AllByRecursion (λ group. AllPairs R group × AllByRecursion (λ y. AllByRecursion (R y) []) group) groups → AllByRecursion (AllPairs R) groups
    apart [] h = tt
    apart (group ∷ groups) h = (h.0.0, apart groups h.1)

-- numbers ascend
abbrev IsBefore : {X : Type 0} → ℕ × X → ℕ × X → Type 0
IsBefore x y = x.0 < y.0

numbers_above : {X : Type 0} (x : X) (n m : ℕ) (xs : List X) → n < m → AllByRecursion (IsBefore (n, x)) (enumerate_from m xs)
numbers_above x n m [] less = tt
numbers_above x n m (y ∷ xs) less = (less, numbers_above x n (m + 1) xs (omega (arith, less)))

numbers_ordered : {X : Type 0} (n : ℕ) (xs : List X) → Ordered IsBefore (enumerate_from n xs)
numbers_ordered n [] = tt
numbers_ordered n (x ∷ xs) = (numbers_above x n (n + 1) xs (omega arith), numbers_ordered (n + 1) xs)

numbers_ascend : (session : List (ℕ × List Seen)) → AllPairs IsBefore session → IsStrictlyIncreasing (map (λ x. x.0) session)
numbers_ascend session h k low =
    let long = length_map (λ (x : ℕ × List Seen). x.0) session in
    let none : ℕ × List Seen = (0, []) in
    let less : (get_or session k none).0 < (get_or session (k + 1) none).0 = h k (k + 1) none (omega arith) (omega (arith, low, long)) in
    let here = get_or_map (λ (x : ℕ × List Seen). x.0) session k none in
    let next = get_or_map (λ (x : ℕ × List Seen). x.0) session (k + 1) none in
    omega (arith, less, here, next)

-- a numbered register may compact in the plan
pub may_compact : (a : Netlist ℕ) (cuts : List ℕ) (most : ℕ) (p : PlanValue) (h : IsChosen a cuts most p) → AllByRecursion (λ x. MayCompact p x.0) (numbered_of h.draft most)
may_compact a cuts most p h = all_both (numbered_of h.draft most) (each_numbered h.draft most) (each_observes a cuts h.draft most h.cells)
  where
    one : (x : ℕ × List Seen) → IsNumbered h.draft most x → has_input (observing_register x.1) ≡ false → MayCompact p x.0
    one x is clear =
        let g = zip_back IsSameRegister p.registers (grouped_of h.draft most).registers x.0 (observing_register x.1) h.registers (register_there h.draft most x is) in
        (g.0, g.1, any_alike only_generates g.0.cells (map (λ o. o.cell) x.1) g.2 ∙ clear)

    all_both : (xs : List (ℕ × List Seen)) → AllByRecursion (IsNumbered h.draft most) xs → AllByRecursion (λ x. has_input (observing_register x.1) ≡ false) xs → AllByRecursion (λ x. MayCompact p x.0) xs
    all_both [] is clear = tt
    all_both (x ∷ xs) is clear = (one x is.0 clear.0, all_both xs is.1 clear.1)

numbers_all : (P : ℕ → Type 0) (session : List (ℕ × List Seen)) → AllByRecursion (λ x. P x.0) session → AllByRecursion P (map (λ x. x.0) session)
numbers_all P session h = all_map_back P (λ (x : ℕ × List Seen). P x.0) (λ x. x.0) (λ x k. k) session h

-- groups that are not empty are no more than their items
nonempty_few : {X : Type 0} (groups : List (List X)) → AllByRecursion (λ group. 1 ≤ length group) groups → length groups ≤ length (flat_map (λ group. group) groups)
nonempty_few [] h = omega arith
nonempty_few (group ∷ groups) h = let rest = nonempty_few groups h.1 in let long = length-append group (flat_map (λ group. group) groups) in let some = h.0 in omega (arith, rest, long, some)

first_few : {X : Type 0} (k : ℕ) (groups : List (List X)) → length (flat_map (λ group. group) (take k groups)) ≤ length (flat_map (λ group. group) groups)
first_few zero groups = omega arith
first_few (suc k) [] = omega arith
first_few (suc k) (group ∷ groups) =
    let rest = first_few k groups in
    let long = length-append group (flat_map (λ group. group) groups) in
    let short = length-append group (flat_map (λ group. group) (take k groups)) in
    omega (arith, rest, long, short)

as_many : {X Y : Type 0} (f : X → Y) (groups : List (List X)) → length (flat_map (λ group. group) (map (map f) groups)) ≡ length (flat_map (λ group. group) groups)
as_many f [] = refl
as_many f (group ∷ groups) =
    let rest = as_many f groups in
    let long = length-append (map f group) (flat_map (λ group. group) (map (map f) groups)) in
    let other = length-append group (flat_map (λ group. group) groups) in
    let same = length_map f group in
    omega (arith, rest, long, other, same)

seen_few : (cells : List Cell) (leaves : List (List ℕ)) → length (seen_cells cells leaves) ≤ length cells
seen_few [] leaves = omega arith
seen_few (c ∷ cells) [] = omega arith
seen_few (c ∷ cells) (l ∷ leaves) = let rest = seen_few cells leaves in omega (arith, rest)

-- sessions list no more registers than there are observers
listed_few : (a : Netlist ℕ) (cuts : List ℕ) (most : ℕ) (p : PlanValue) (h : IsChosen a cuts most p) → length (flat_map (λ session. session) p.sessions) ≤ length h.draft.observers
listed_few a cuts most p h =
    let seen = seen_cells h.draft.observers h.draft.leaves in
    let fits_register : Seen → List Seen → Bool = λ o register. nat_lt (length register) most && not (list_any (clash o) register) in
    let groups = groups_of h.draft most in
    let numbers = as_many (λ (x : ℕ × List Seen). x.0) (sessions_of h.draft most) in
    let listed : length (flat_map (λ session. session) p.sessions) ≡ length (flat_map (λ session. session) (map (map (λ x. x.0)) (sessions_of h.draft most))) = ap (λ ss. length (flat_map (λ session. session) ss)) (sessions_are a cuts most p h) in
    let once = length_permutation (numbered_of h.draft most) (flat_map (λ session. session) (sessions_of h.draft most)) (fitted_once fits_session (numbered_of h.draft most)) in
    let count = length-enumerate_from (length (sources_of h.draft most)) groups in
    let some = nonempty_few groups (some_each fits_register seen) in
    let grouped = length_permutation seen (flat_map (λ group. group) groups) (fitted_once fits_register seen) in
    let few = seen_few h.draft.observers h.draft.leaves in
    omega (arith, numbers, listed, once, count, some, grouped, few)

-- the sessions of a chosen plan meet their rule
pub sessions_meet : (a : Netlist ℕ) (cuts : List ℕ) (most : ℕ) (p : PlanValue) → AreCutsOf a cuts → length (driven a) ≤ 2097152 → IsChosen a cuts most p → Holds a p Sessions
sessions_meet a cuts most p cuts_are small h s session at =
    let number : List (ℕ × List Seen) → List ℕ = map (λ x. x.0) in
    let all = sessions_of h.draft most in
    let own = get_map number all s session (ap (λ ss. slice_get ss s) (sym (sessions_are a cuts most p h)) ∙ at) in
    let some : 1 ≤ length own.0 = at_place (λ (session : List (ℕ × List Seen)). 1 ≤ length session) all s own.0 (some_each fits_session (numbered_of h.draft most)) own.1 in
    let long : length session ≡ length own.0 = sym (ap length own.2) ∙ length_map (λ (x : ℕ × List Seen). x.0) own.0 in
    let ordered = at_place (AllPairs IsBefore) all s own.0 (fitted_ordered IsBefore fits_session (numbered_of h.draft most) (numbers_ordered (length (sources_of h.draft most)) (groups_of h.draft most))) own.1 in
    let may = at_place (AllByRecursion (λ x. MayCompact p x.0)) all s own.0 (fitted_all (λ (x : ℕ × List Seen). MayCompact p x.0) fits_session (numbered_of h.draft most) (may_compact a cuts most p h)) own.1 in
    let front = first_few (suc s) p.sessions in
    let few = few_observers a cuts h.draft cuts_are.netlist cuts_are.ascending (to_all (λ net. is_free a.gates net ≡ false) cuts cuts_are.driven) h.cells in
    let total = listed_few a cuts most p h in
    record {
      some = omega (arith, some, long);
      ascending = subst IsStrictlyIncreasing own.2 (numbers_ascend own.0 ordered);
      compacting = subst (AllByRecursion (MayCompact p)) own.2 (numbers_all (MayCompact p) own.0 may);
      few = omega (arith, front, few, total, small);
    }
