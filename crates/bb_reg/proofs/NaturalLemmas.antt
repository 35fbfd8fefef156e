-- First fit by number is first fit of what the numbers stand for.
use Rattle.std.proofs.Common.{arith, ◌≡◌, ℕ, zero, suc, ◌+◌, ◌<◌, ◌≤◌, Bool, true, false, not, ◌&&◌, ◌||◌, List, [], ◌∷◌, ◌++◌, length, map, refl, sym, ap, ◌∙◌, nat_lt, get_or, if◌then◌else◌, append_assoc, length-append}
use Rattle.std.proofs.Math.Seq.{get_or-append_seam}
use Rattle.std.specs.List.{list_any, fold, range_with_len, AllByRecursion, flat_map}
use Rattle.bb_base.proofs.Lists.{length_map, map_join, map_twice, all_join, same_map}
use Rattle.bb_terms.specs.declared.plan.Cell.{Cell}
use Rattle.bb_terms.specs.Plan.{RegisterValue}
use Rattle.bb_reg.specs.Draft.{DraftValue}
use Rattle.bb_reg.specs.Chosen.{Seen, first_fit, fitted, clash, in_registers, seen_cells, register_of, in_runs, grouped_of}
use Rattle.bb_reg.specs.Fitting.{EndsValue, ends_at, ends_clash, fits_in, groups_of, seen_at, cell_at, leaves_at, no_observer, ends_of_all, ends_each}
use Rattle.bb_reg.proofs.SeenLemmas.{seen_get, length_seen, get_map}

module _ {X Y : Type 0} (f : X → Y) (fits : Y → List Y → Bool) (own : X → List X → Bool) (same : (x : X) (group : List X) → fits (f x) (map f group) ≡ own x group) where
  first_map : (groups : List (List X)) (x : X) → first_fit fits (map (map f) groups) (f x) ≡ map (map f) (first_fit own groups x)
  first_map [] x = refl
  first_map (group ∷ groups) x =
      ap (λ (b : Bool). if b then (map f group ++ f x ∷ []) ∷ map (map f) groups else map f group ∷ first_fit fits (map (map f) groups) (f x)) (same x group)
      ∙ by (own x group) (first_map groups x)
    where
      by : (b : Bool) → first_fit fits (map (map f) groups) (f x) ≡ map (map f) (first_fit own groups x)
          → (if b then (map f group ++ f x ∷ []) ∷ map (map f) groups else map f group ∷ first_fit fits (map (map f) groups) (f x)) ≡ map (map f) (if b then (group ++ x ∷ []) ∷ groups else group ∷ first_fit own groups x)
      by true rest = ap (λ k. k ∷ map (map f) groups) (sym (map_join f group (x ∷ [])))
      by false rest = ap (λ k. map f group ∷ k) rest

  fold_map : (groups : List (List X)) (xs : List X) → fold (first_fit fits) (map (map f) groups) (map f xs) ≡ map (map f) (fold (first_fit own) groups xs)
  fold_map groups [] = refl
  fold_map groups (x ∷ xs) = ap (λ k. fold (first_fit fits) k (map f xs)) (first_map groups x) ∙ fold_map (first_fit own groups x) xs

  pub fitted_map : (xs : List X) → fitted fits (map f xs) ≡ map (map f) (fitted own xs)
  fitted_map xs = fold_map [] xs

pub any_map : {X Y : Type 0} (f : X → Y) (p : Y → Bool) (xs : List X) → list_any p (map f xs) ≡ list_any (λ x. p (f x)) xs
any_map f p [] = refl
any_map f p (x ∷ xs) = ap (λ b. p (f x) || b) (any_map f p xs)

-- the items by their numbers are the items
pub by_number : {X : Type 0} (xs : List X) (d : X) → map (λ i. get_or xs i d) (range_with_len 0 (length xs)) ≡ xs
by_number {X} xs d = behind [] xs
  where
    behind : (before after : List X) → map (λ i. get_or (before ++ after) i d) (range_with_len (length before) (length after)) ≡ after
    behind before [] = refl
    behind before (x ∷ after) =
        let list = sym (append_assoc before (x ∷ []) after) in
        let long = sym (length-append before (x ∷ [])) in
        let tail = (λ k. map (λ i. get_or (list k) i d) (range_with_len (long k) (length after))) ∙ behind (before ++ x ∷ []) after in
        (λ k. get_or-append_seam before x after d k ∷ tail k)

-- what first fit leaves together is among what came
pub fitted_all : {X : Type 0} (P : X → Type 0) (fits : X → List X → Bool) (xs : List X) → AllByRecursion P xs → AllByRecursion (AllByRecursion P) (fitted fits xs)
fitted_all {X} P fits xs all = on [] xs tt all
  where
    one : (groups : List (List X)) (x : X) → AllByRecursion (AllByRecursion P) groups → P x → AllByRecursion (AllByRecursion P) (first_fit fits groups x)
    one [] x h p = ((p, tt), tt)
    one (group ∷ more) x h p = by (fits x group) (one more x h.1 p)
      where
        by : (b : Bool) → AllByRecursion (AllByRecursion P) (first_fit fits more x) → AllByRecursion (AllByRecursion P) (if b then (group ++ x ∷ []) ∷ more else group ∷ first_fit fits more x)
        by true rest = (all_join P group (x ∷ []) h.0 (p, tt), h.1)
        by false rest = (h.0, rest)

    on : (groups : List (List X)) (xs : List X) → AllByRecursion (AllByRecursion P) groups → AllByRecursion P xs → AllByRecursion (AllByRecursion P) (fold (first_fit fits) groups xs)
    on groups [] h all = h
    on groups (x ∷ xs) h all = on (first_fit fits groups x) xs (one groups x h all.0) all.1

pub range_below : (a n m : ℕ) → a + n ≤ m → AllByRecursion (λ j. j < m) (range_with_len a n)
range_below a zero m h = tt
range_below a (suc n) m h = (omega (arith, h), range_below (a + 1) n m (omega (arith, h)))

pub groups_below : (items : List EndsValue) (most count : ℕ) → AllByRecursion (AllByRecursion (λ j. j < count)) (groups_of items most count)
groups_below items most count = fitted_all (λ j. j < count) (fits_in items most) (range_with_len 0 count) (range_below 0 count count (omega arith))

-- two observers clash where their ends do
ends_seen : (observers : List Seen) (i : ℕ) → ends_at (ends_each observers) i ≡ ends_of_all (seen_at observers i ∷ [])
ends_seen observers i = get_map (λ o. ends_of_all (o ∷ [])) observers i no_observer

-- the registers are the groups of numbers
pub registers_are : (observers : List Seen) (most : ℕ) → in_registers most observers ≡ map (map (seen_at observers)) (groups_of (ends_each observers) most (length observers))
registers_are observers most =
    ap (in_registers most) (sym (by_number observers no_observer))
    ∙ fitted_map (seen_at observers) (λ o register. nat_lt (length register) most && not (list_any (clash o) register)) (fits_in (ends_each observers) most) same (range_with_len 0 (length observers))
  where
    clashes : (i j : ℕ) → clash (seen_at observers i) (seen_at observers j) ≡ ends_clash (ends_at (ends_each observers) i) (ends_at (ends_each observers) j)
    clashes i j = sym (λ k. ends_clash (ends_seen observers i k) (ends_seen observers j k))

    same : (i : ℕ) (group : List ℕ) → (nat_lt (length (map (seen_at observers) group)) most && not (list_any (clash (seen_at observers i)) (map (seen_at observers) group))) ≡ fits_in (ends_each observers) most i group
    same i group =
        (λ k. nat_lt (length_map (seen_at observers) group k) most && not ((any_map (seen_at observers) (clash (seen_at observers i)) group ∙ ap (λ p. list_any p group) (λ m j. clashes i j m)) k))

pub length_ends : (cells : List Cell) (leaves : List (List ℕ)) → length leaves ≡ length cells → length (ends_each (seen_cells cells leaves)) ≡ length cells
length_ends cells leaves long = length_map (λ o. ends_of_all (o ∷ [])) (seen_cells cells leaves) ∙ length_seen cells leaves (sym long)

-- a draft's registers and leaves, by the groups of numbers
cells_seen : (cells : List Cell) (leaves : List (List ℕ)) → length cells ≡ length leaves → (group : List ℕ) → map (λ o. o.cell) (map (seen_at (seen_cells cells leaves)) group) ≡ map (cell_at cells) group
cells_seen cells leaves long group = map_twice (λ o. o.cell) (seen_at (seen_cells cells leaves)) group ∙ same_map (λ i. (seen_at (seen_cells cells leaves) i).cell) (cell_at cells) (λ i. ap (λ (o : Seen). o.cell) (seen_get cells leaves i long)) group

leaves_seen : (cells : List Cell) (leaves : List (List ℕ)) → length cells ≡ length leaves → (group : List ℕ) → map (λ o. o.leaves) (map (seen_at (seen_cells cells leaves)) group) ≡ map (leaves_at leaves) group
leaves_seen cells leaves long group = map_twice (λ o. o.leaves) (seen_at (seen_cells cells leaves)) group ∙ same_map (λ i. (seen_at (seen_cells cells leaves) i).leaves) (leaves_at leaves) (λ i. ap (λ (o : Seen). o.leaves) (seen_get cells leaves i long)) group

flat_map_twice : {X Y Z : Type 0} (g : Y → List Z) (f : X → Y) (xs : List X) → flat_map g (map f xs) ≡ flat_map (λ x. g (f x)) xs
flat_map_twice g f [] = refl
flat_map_twice g f (x ∷ xs) = ap (λ k. g (f x) ++ k) (flat_map_twice g f xs)

pub grouped_by_number :
    (draft : DraftValue) (most : ℕ) (groups : List (List ℕ)) (registers more : List RegisterValue) (leaves after : List (List ℕ)) → length draft.leaves ≡ length draft.observers
    → groups ≡ groups_of (ends_each (seen_cells draft.observers draft.leaves)) most (length draft.observers)
    → registers ≡ map register_of (in_runs most draft.sources) → more ≡ registers ++ map (λ group. register_of (map (cell_at draft.observers) group)) groups
    → leaves ≡ map (λ c. []) draft.sources → after ≡ leaves ++ flat_map (map (leaves_at draft.leaves)) groups
    → record { registers = more; leaves = after } ≡ grouped_of draft most
grouped_by_number draft most groups registers more leaves after long are registers_is more_is leaves_is after_is = (λ k. record { registers = all k; leaves = ends k })
  where
    seen : List Seen
    seen = seen_cells draft.observers draft.leaves

    placed : groups ≡ groups_of (ends_each (seen_cells draft.observers draft.leaves)) most (length draft.observers) → map (map (seen_at (seen_cells draft.observers draft.leaves))) groups ≡ in_registers most (seen_cells draft.observers draft.leaves)
    placed are =
        ap (map (map (seen_at (seen_cells draft.observers draft.leaves)))) (are ∙ ap (groups_of (ends_each (seen_cells draft.observers draft.leaves)) most) (sym (length_seen draft.observers draft.leaves (sym long))))
        ∙ sym (registers_are (seen_cells draft.observers draft.leaves) most)

    all : more ≡ map register_of (in_runs most draft.sources) ++ map (λ group. register_of (map (λ o. o.cell) group)) (in_registers most (seen_cells draft.observers draft.leaves))
    all =
        more_is ∙ (λ k. registers_is k ++ map (λ group. register_of (sym (cells_seen draft.observers draft.leaves (sym long) group) k)) groups)
        ∙ ap (λ r. map register_of (in_runs most draft.sources) ++ r)
        (sym (map_twice (λ group. register_of (map (λ o. o.cell) group)) (map (seen_at (seen_cells draft.observers draft.leaves))) groups) ∙ ap (map (λ group. register_of (map (λ o. o.cell) group))) (placed are))

    ends : after ≡ map (λ c. []) draft.sources ++ flat_map (map (λ o. o.leaves)) (in_registers most (seen_cells draft.observers draft.leaves))
    ends =
        after_is ∙ (λ k. leaves_is k ++ flat_map (λ group. sym (leaves_seen draft.observers draft.leaves (sym long) group) k) groups)
        ∙ ap (λ r. map (λ c. []) draft.sources ++ r)
        (sym (flat_map_twice (map (λ o. o.leaves)) (map (seen_at (seen_cells draft.observers draft.leaves))) groups) ∙ ap (flat_map (map (λ o. o.leaves))) (placed are))
