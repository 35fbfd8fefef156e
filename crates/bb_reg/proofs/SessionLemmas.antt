-- Sessions by number are those of the registers that may compact; a group of so many always has room.
use Rattle.std.proofs.Common.{arith, ◌≡◌, ℕ, suc, ◌+◌, ◌<◌, ◌≤◌, Bool, true, false, not, ◌&&◌, List, [], ◌∷◌, ◌++◌, length, map, take, drop, refl, sym, ap, ◌∙◌, nat_lt, get_or, slice_index, if◌then◌else◌, length-append}
use Rattle.std.specs.List.{list_any, fold, range_with_len, AllByRecursion}
use Rattle.std.proofs.lemmas.Bool.Decides.{nat_tests}
use Rattle.std.proofs.lemmas.List.FromFn.{length-range_with_len}
use Rattle.bb_base.proofs.Lists.{map_twice}
use Rattle.bb_terms.specs.Plan.{RegisterValue, has_input}
use Rattle.bb_reg.specs.Chosen.{Seen, first_fit, fitted, conflict, in_sessions, compacting_from, seen_cells}
use Rattle.bb_reg.specs.Fitting.{EndsValue, ends_at, ends_clash, groups_of, ends_of_all}
use Rattle.bb_reg.proofs.SeenLemmas.{get_map}
use Rattle.bb_reg.proofs.NaturalLemmas.{fitted_map, by_number, any_map}

-- a test that also asks for room is the same where groups are short
module _ {X : Type 0} (fits : X → List X → Bool) (most : ℕ) where
  roomy : X → List X → Bool
  roomy x group = nat_lt (length group) most && fits x group

  one_same : (count : ℕ) (groups : List (List X)) (x : X) → AllByRecursion (λ g. length g ≤ count) groups → count < most → first_fit (λ x group. nat_lt (length group) most && fits x group) groups x ≡ first_fit fits groups x
  one_same count [] x short low = refl
  one_same count (group ∷ groups) x short low =
      let h = short.0 in
      let room : nat_lt (length group) most ≡ true = grind (arith, nat_tests, h, low) in
      (λ k. if room k && fits x group then (group ++ x ∷ []) ∷ groups else group ∷ one_same count groups x short.1 low k)

  one_short : (count : ℕ) (groups : List (List X)) (x : X) → AllByRecursion (λ g. length g ≤ count) groups → AllByRecursion (λ g. length g ≤ suc count) (first_fit fits groups x)
  one_short count [] x short = (omega arith, tt)
  one_short count (group ∷ groups) x short = by (fits x group) (one_short count groups x short.1)
    where
      more : (gs : List (List X)) → AllByRecursion (λ g. length g ≤ count) gs → AllByRecursion (λ g. length g ≤ suc count) gs
      more [] h = tt
      more (g ∷ gs) h = (omega (arith, h.0), more gs h.1)

      by : (b : Bool) → AllByRecursion (λ g. length g ≤ suc count) (first_fit fits groups x) → AllByRecursion (λ g. length g ≤ suc count) (if b then (group ++ x ∷ []) ∷ groups else group ∷ first_fit fits groups x)
      by true rest = (omega (arith, short.0, length-append group (x ∷ [])), more groups short.1)
      by false rest = (omega (arith, short.0), rest)

  all_same : (count : ℕ) (groups : List (List X)) (xs : List X) → AllByRecursion (λ g. length g ≤ count) groups → count + length xs ≤ most → fold (first_fit (λ x group. nat_lt (length group) most && fits x group)) groups xs ≡ fold (first_fit fits) groups xs
  all_same count groups [] short low = refl
  all_same count groups (x ∷ xs) short low =
      ap (λ gs. fold (first_fit (λ x group. nat_lt (length group) most && fits x group)) gs xs) (one_same count groups x short (omega (arith, low)))
      ∙ all_same (suc count) (first_fit fits groups x) xs (one_short count groups x short) (omega (arith, low))

  pub always_room : (xs : List X) → length xs ≤ most → fitted (λ x group. nat_lt (length group) most && fits x group) xs ≡ fitted fits xs
  always_room xs low = all_same 0 [] xs tt (omega (arith, low))

-- the sessions are the groups of numbers
pub sessions_are :
    (registers : List (ℕ × List Seen)) (most : ℕ) (numbers : List ℕ) (items : List EndsValue) → length registers ≤ most → numbers ≡ map (λ x. x.0) registers → items ≡ map (λ x. ends_of_all x.1) registers
    → map (map (slice_index numbers)) (groups_of items most (length registers)) ≡ in_sessions registers
sessions_are registers most numbers items low numbers_are items_are =
    let n = length registers in
    let none : ℕ × List Seen = (0, []) in
    let at : ℕ → ℕ × List Seen = λ i. get_or registers i none in
    let clear : ℕ → List ℕ → Bool = λ i group. not (list_any (λ j. ends_clash (ends_at items i) (ends_at items j)) group) in
    let by_ends = always_room clear most (range_with_len 0 n) (omega (arith, low, length-range_with_len 0 n)) in
    let number : (i : ℕ) → slice_index numbers i ≡ (at i).0 = λ i. ap (λ ks. get_or ks i 0) numbers_are ∙ get_map (λ (x : ℕ × List Seen). x.0) registers i none in
    let ends : (i : ℕ) → ends_at items i ≡ ends_of_all (at i).1 = λ i. ap (λ ks. get_or ks i (record { gives = []; reads = [] })) items_are ∙ get_map (λ (x : ℕ × List Seen). ends_of_all x.1) registers i none in
    let same : (i : ℕ) (group : List ℕ) → not (list_any (λ (y : ℕ × List Seen). conflict (at i).1 y.1) (map at group)) ≡ clear i group =
    λ i group. ap not (any_map at (λ y. conflict (at i).1 y.1) group ∙ (λ k. list_any (λ j. ends_clash (sym (ends i) k) (sym (ends j) k)) group)) in
    ap (map (map (slice_index numbers))) by_ends
    ∙ (λ k. map (map (λ i. number i k)) (fitted clear (range_with_len 0 n)))
    ∙ (λ k. map (λ group. sym (map_twice (λ (x : ℕ × List Seen). x.0) at group) k) (fitted clear (range_with_len 0 n)))
    ∙ sym (map_twice (map (λ (x : ℕ × List Seen). x.0)) (map at) (fitted clear (range_with_len 0 n)))
    ∙ ap (map (map (λ (x : ℕ × List Seen). x.0))) (sym (fitted_map at (λ x session. not (list_any (λ y. conflict x.1 y.1) session)) clear same (range_with_len 0 n)))
    ∙ ap in_sessions (by_number registers none)

-- no more registers compact than there are
pub compacting_few : (r : ℕ) (registers : List RegisterValue) (leaves : List (List ℕ)) → length (compacting_from r registers leaves) ≤ length registers
compacting_few r [] leaves = omega arith
compacting_few r (g ∷ registers) leaves = by (has_input g) (compacting_few (suc r) registers (drop (length g.cells) leaves))
  where
    by : (b : Bool) → length (compacting_from (suc r) registers (drop (length g.cells) leaves)) ≤ length registers
        → length (if b then compacting_from (suc r) registers (drop (length g.cells) leaves) else (r, seen_cells g.cells (take (length g.cells) leaves)) ∷ compacting_from (suc r) registers (drop (length g.cells) leaves)) ≤ suc (length registers)
    by true h = omega (arith, h)
    by false h = omega (arith, h)
