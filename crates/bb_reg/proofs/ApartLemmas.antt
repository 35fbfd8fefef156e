-- What first fit leaves together: groups are not empty, not too large, and fit their members one after another.
use Rattle.std.proofs.Common.{arith, ◌≡◌, ℕ, zero, suc, ◌<◌, ◌≤◌, Bool, true, false, not, ◌&&◌, ◌||◌, List, [], ◌∷◌, ◌++◌, length, map, refl, sym, nat_lt, get_or, if◌then◌else◌, length-append}
use Rattle.std.specs.Prelude.{AllPairs}
use Rattle.std.specs.List.{AllByRecursion, fold, list_any}
use Rattle.std.proofs.lemmas.Bool.Decides.{nat_tests}
use Rattle.std.proofs.lemmas.List.Quantifiers.{all_pairs_push}
use Rattle.bb_base.proofs.Lists.{all_join, all_map_back, length_map}
use Rattle.bb_terms.specs.declared.plan.Cell.{Cell}
use Rattle.bb_terms.specs.Plan.{RegisterValue}
use Rattle.bb_reg.specs.Draft.{DraftValue}
use Rattle.bb_reg.specs.Chosen.{Seen, first_fit, fitted, clash, conflict, in_runs, in_registers, numbered_sessions, seen_cells, register_of, grouped_of}

-- a fact of one item, kept by each item that fits, holds of every group
pub fitted_keeps :
    {X : Type 0} (P : List X → Type 0) (fits : X → List X → Bool) → ((x : X) → P (x ∷ [])) → ((x : X) (group : List X) → P group → fits x group ≡ true → P (group ++ x ∷ []))
    → (xs : List X) → AllByRecursion P (fitted fits xs)
fitted_keeps {X} P fits begins joins xs = on [] xs tt
  where
    one : (groups : List (List X)) (x : X) → AllByRecursion P groups → AllByRecursion P (first_fit fits groups x)
    one [] x h = (begins x, tt)
    one (group ∷ more) x h = by (fits x group) refl (one more x h.1)
      where
        by : (b : Bool) → fits x group ≡ b → AllByRecursion P (first_fit fits more x) → AllByRecursion P (if b then (group ++ x ∷ []) ∷ more else group ∷ first_fit fits more x)
        by true e rest = (joins x group h.0 e, h.1)
        by false e rest = (h.0, rest)

    on : (groups : List (List X)) (xs : List X) → AllByRecursion P groups → AllByRecursion P (fold (first_fit fits) groups xs)
    on groups [] h = h
    on groups (x ∷ xs) h = on (first_fit fits groups x) xs (one groups x h)

room_of : (a b : Bool) → (a && b) ≡ true → a ≡ true
room_of true b e = refl
room_of false b e = e

clear_of : (a b : Bool) → (a && not b) ≡ true → b ≡ false
clear_of true true e = sym e
clear_of true false e = refl
clear_of false b e = absurd (cc e)

off : (b : Bool) → not b ≡ true → b ≡ false
off true e = sym e
off false e = refl

-- an item that no test finds
pub none_found : {X : Type 0} (p : X → Bool) (xs : List X) (k : ℕ) (d : X) → list_any p xs ≡ false → k < length xs → p (get_or xs k d) ≡ false
none_found p [] k d e low = absurd (omega (arith, low))
none_found p (x ∷ xs) zero d e low = first (p x) (list_any p xs) e
  where
    first : (a b : Bool) → (a || b) ≡ false → a ≡ false
    first true b h = h
    first false b h = refl
none_found p (x ∷ xs) (suc k) d e low = none_found p xs k d (rest (p x) (list_any p xs) e) (omega (arith, low))
  where
    rest : (a b : Bool) → (a || b) ≡ false → b ≡ false
    rest true b h = absurd (cc h)
    rest false b h = h

counts : {X : Type 0} (most : ℕ) (fits : X → List X → Bool) → 1 ≤ most → ((x : X) (group : List X) → fits x group ≡ true → nat_lt (length group) most ≡ true) → (xs : List X) → AllByRecursion (λ (group : List X). (1 ≤ length group) × (length group ≤ most)) (fitted fits xs)
counts {X} most fits some room xs = fitted_keeps (λ (group : List X). (1 ≤ length group) × (length group ≤ most)) fits (λ x. (omega arith, omega (arith, some)))
    (λ x group h e. let low = below (length group) (room x group e) in let long = length-append group (x ∷ []) in (omega (arith, long), omega (arith, long, low))) xs
  where
    below : (n : ℕ) → nat_lt n most ≡ true → n < most
    below n e = grind (arith, nat_tests, e)

pub register_counts : (draft : DraftValue) (most : ℕ) → 1 ≤ most → AllByRecursion (λ (g : RegisterValue). (1 ≤ length g.cells) × (length g.cells ≤ most)) (grouped_of draft most).registers
register_counts draft most some =
    let P : RegisterValue → Type 0 = λ g. (1 ≤ length g.cells) × (length g.cells ≤ most) in
    let observers = seen_cells draft.observers draft.leaves in
    all_join P (map register_of (in_runs most draft.sources)) (map (λ group. register_of (map (λ o. o.cell) group)) (in_registers most observers))
    (all_map_back P (λ (run : List Cell). (1 ≤ length run) × (length run ≤ most)) register_of (λ run h. h) (in_runs most draft.sources) (counts most (λ c run. nat_lt (length run) most) some (λ c run e. e) draft.sources))
    (all_map_back P (λ (group : List Seen). (1 ≤ length group) × (length group ≤ most)) (λ group. register_of (map (λ o. o.cell) group)) (λ group h. let long = length_map (λ (o : Seen). o.cell) group in (omega (arith, long, h.0), omega (arith, long, h.1)))
    (in_registers most observers) (counts most (λ o register. nat_lt (length register) most && not (list_any (clash o) register)) some (λ o register e. room_of (nat_lt (length register) most) (not (list_any (clash o) register)) e) observers))

single_pair : {X : Type 0} (R : X → X → Type 0) (x : X) → AllPairs R (x ∷ [])
single_pair R x i j d less low = absurd (omega (arith, less, low))

pub registers_apart : (observers : List Seen) (most : ℕ) → AllByRecursion (AllPairs (λ a b. clash b a ≡ false)) (in_registers most observers)
registers_apart observers most =
    fitted_keeps (AllPairs (λ a b. clash b a ≡ false)) (λ o register. nat_lt (length register) most && not (list_any (clash o) register)) (single_pair (λ a b. clash b a ≡ false))
    (λ o register h e. all_pairs_push (λ a b. clash b a ≡ false) register o h (λ k d low. none_found (clash o) register k d (clear_of (nat_lt (length register) most) (list_any (clash o) register) e) low)) observers

pub sessions_apart : (registers : List (ℕ × List Seen)) → AllByRecursion (AllPairs (λ x y. conflict y.1 x.1 ≡ false)) (numbered_sessions registers)
sessions_apart registers =
    fitted_keeps (AllPairs (λ (x y : ℕ × List Seen). conflict y.1 x.1 ≡ false)) (λ x session. not (list_any (λ y. conflict x.1 y.1) session)) (single_pair (λ (x y : ℕ × List Seen). conflict y.1 x.1 ≡ false))
    (λ x session h e. all_pairs_push (λ (x y : ℕ × List Seen). conflict y.1 x.1 ≡ false) session x h (λ k d low. none_found (λ (y : ℕ × List Seen). conflict x.1 y.1) session k d (off (list_any (λ (y : ℕ × List Seen). conflict x.1 y.1) session) e) low)) registers
