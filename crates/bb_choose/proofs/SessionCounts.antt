-- There are no more sessions than registers.
use Rattle.std.proofs.Common.{arith, ℕ, suc, ◌≤◌, not, Bool, true, false, List, [], ◌∷◌, length, map, take, drop, length-append, if◌then◌else◌}
use Rattle.std.specs.List.{AllByRecursion, flat_map, list_any}
use Rattle.std.proofs.lemmas.List.Sorted.{length_permutation}
use Rattle.bb_base.proofs.Lists.{length_map}
use Rattle.bb_terms.specs.Plan.{RegisterValue, has_input}
use Rattle.bb_reg.specs.Chosen.{Seen, GroupedValue, conflict, seen_cells, compacting_from, numbered_sessions, scheduled_of}
use Rattle.bb_reg.proofs.OnceLemmas.{fitted_once}
use Rattle.bb_choose.proofs.ScheduleLemmas.{some_each}

nonempty_few : {X : Type 0} (groups : List (List X)) → AllByRecursion (λ group. 1 ≤ length group) groups → length groups ≤ length (flat_map (λ group. group) groups)
nonempty_few [] h = omega arith
nonempty_few (group ∷ groups) h = let rest = nonempty_few groups h.1 in let long = length-append group (flat_map (λ group. group) groups) in let some = h.0 in omega (arith, rest, long, some)

compacting_few : (r : ℕ) (registers : List RegisterValue) (leaves : List (List ℕ)) → length (compacting_from r registers leaves) ≤ length registers
compacting_few r [] leaves = omega arith
compacting_few r (g ∷ registers) leaves = by (has_input g) (compacting_few (suc r) registers (drop (length g.cells) leaves))
  where
    more : List (ℕ × List Seen)
    more = compacting_from (suc r) registers (drop (length g.cells) leaves)

    by : (b : Bool) → length more ≤ length registers → length (if b then more else (r, seen_cells g.cells (take (length g.cells) leaves)) ∷ more) ≤ suc (length registers)
    by true few = omega (arith, few)
    by false few = omega (arith, few)

pub sessions_few : (grouped : GroupedValue) → length (scheduled_of grouped) ≤ length grouped.registers
sessions_few grouped =
    let registers = compacting_from 0 grouped.registers grouped.leaves in
    let fits : ℕ × List Seen → List (ℕ × List Seen) → Bool = λ x session. not (list_any (λ y. conflict x.1 y.1) session) in
    let sessions = numbered_sessions registers in
    let number : List (ℕ × List Seen) → List ℕ = map (λ x. x.0) in
    let long = length_map number sessions in
    let some = nonempty_few sessions (some_each fits registers) in
    let once = length_permutation registers (flat_map (λ session. session) sessions) (fitted_once fits registers) in
    let few = compacting_few 0 grouped.registers grouped.leaves in
    omega (arith, long, some, once, few)
