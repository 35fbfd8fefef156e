-- Signatures, session by session.
use Rattle.std.proofs.Common.{arith, ◌≡◌, ℕ, zero, suc, ◌+◌, ◌<◌, List, [], ◌∷◌, ◌++◌, length, map, take, drop, set, refl, sym, ap, subst, ◌∙◌, get_or, All}
use Rattle.std.proofs.lemmas.List.Elements.{All-from_recursion, recursion_from_All}
use Rattle.std.proofs.lemmas.Option.{slice_get_within}
use Rattle.std.specs.List.{AllByRecursion, AllZip}
use Rattle.bb_base.proofs.Contained.{by_place}
use Rattle.bb_base.proofs.Lists.{all_map, map_twice}
use Rattle.bb_base.specs.Net.{Netlist, IsNetlist}
use Rattle.bb_terms.specs.Plan.{PlanValue}
use Rattle.bb_terms.specs.Rules.{Kinds, Sessions, MayCompact}
use Rattle.bb_terms.specs.Valid.{IsValidPlan}
use Rattle.bb_terms.specs.Signatures.{IsSigned, AreSignatures}
use Rattle.bb_rules.proofs.SignedLemmas.{some_signatures}
use Rattle.bb_sign.specs.Compactors.{AreSigned}

abbrev AllMay : PlanValue → List (List ℕ) → Type 0
AllMay p sessions = AllByRecursion (λ session. AllByRecursion (MayCompact p) session) sessions

-- the registers of sessions may compact
sessions_may : (a : Netlist ℕ) (p : PlanValue) → IsValidPlan a p → AllMay p p.sessions
sessions_may a p valid = by_place (λ session. AllByRecursion (MayCompact p) session) p.sessions (λ s session at. (valid.meets Sessions s session at).compacting)

-- and so they exist
pub sessions_within : (a : Netlist ℕ) (p : PlanValue) → IsValidPlan a p → All (λ session. All (λ r. r < length p.registers) session) p.sessions
sessions_within a p valid = All-from_recursion (λ (session : List ℕ). All (λ r. r < length p.registers) session) p.sessions (each p.sessions (sessions_may a p valid))
  where
    inside : (session : List ℕ) → AllByRecursion (MayCompact p) session → AllByRecursion (λ r. r < length p.registers) session
    inside [] may = tt
    inside (r ∷ session) may = (slice_get_within p.registers r may.0.0 may.0.1, inside session may.1)

    each : (sessions : List (List ℕ)) → AllMay p sessions → AllByRecursion (λ session. All (λ r. r < length p.registers) session) sessions
    each [] may = tt
    each (session ∷ sessions) may = (All-from_recursion (λ r. r < length p.registers) session (inside session may.0), each sessions may.1)

-- what registers hold is their signatures
held_session : (a : Netlist ℕ) (p : PlanValue) (held : List ℕ) → AreSigned a p held → (session written : List ℕ) → AllByRecursion (MayCompact p) session → AllZip (IsSigned a p) session written → map (λ r. get_or held r 0) session ≡ written
held_session a p held signed [] [] may zip = refl
held_session a p held signed [] (w ∷ written) may zip = absurd zip
held_session a p held signed (r ∷ session) [] may zip = absurd zip
held_session a p held signed (r ∷ session) (w ∷ written) may zip = let first = signed r w may.0 zip.0 in let rest = held_session a p held signed session written may.1 zip.1 in λ i. first i ∷ rest i

held_list : (a : Netlist ℕ) (p : PlanValue) (held : List ℕ) → AreSigned a p held → (sessions written : List (List ℕ)) → AllMay p sessions → AllZip (λ session written. AllZip (IsSigned a p) session written) sessions written
    → map (λ session. map (λ r. get_or held r 0) session) sessions ≡ written
held_list a p held signed [] [] may zip = refl
held_list a p held signed [] (w ∷ written) may zip = absurd zip
held_list a p held signed (s ∷ sessions) [] may zip = absurd zip
held_list a p held signed (s ∷ sessions) (w ∷ written) may zip = let first = held_session a p held signed s w may.0 zip.0 in let rest = held_list a p held signed sessions written may.1 zip.1 in λ i. first i ∷ rest i

pub signatures_are : (a : Netlist ℕ) (p : PlanValue) (held : List ℕ) (lists : List (List ℕ)) → IsNetlist a → IsValidPlan a p → AreSigned a p held → lists ≡ map (λ session. map (λ r. get_or held r 0) session) p.sessions → AreSignatures a p lists
signatures_are a p held lists fits valid signed is =
    let some = some_signatures a p fits valid.order (valid.meets Kinds) (valid.meets Sessions) in
    let same = held_list a p held signed p.sessions some.0 (sessions_may a p valid) some.1 in
    subst (AreSignatures a p) (sym (is ∙ same)) some.1

-- what holds of lists holds of their items
pub of_items : {V : Type 0} (P : List ℕ → Type 0) (items : V → List ℕ) (lists : List V) (sessions : List (List ℕ)) → map items lists ≡ sessions → All P sessions → All (λ l. P (items l)) lists
of_items {V} P items lists sessions same all =
    All-from_recursion (λ (l : V). P (items l)) lists (all_map P (λ (l : V). P (items l)) items (λ l h. h) lists (recursion_from_All P (map items lists) (subst (All P) (sym same) all)))

-- numbers of registers that were replaced by what these hold
pub put_is : {V : Type 0} (items : V → List ℕ) (lists new : List V) (sessions : List (List ℕ)) (held : List ℕ) → map items lists ≡ sessions → map items new ≡ map (λ l. map (λ r. get_or held r 0) (items l)) lists
    → map items new ≡ map (λ session. map (λ r. get_or held r 0) session) sessions
put_is items lists new sessions held same put = put ∙ sym (map_twice (λ session. map (λ r. get_or held r 0) session) items lists) ∙ ap (map (λ session. map (λ r. get_or held r 0) session)) same

-- one item more was put in place
pub put_more : {X Y : Type 0} (f : X → Y) (xs new : List X) (whole : List Y) (g : X → Y) (place : ℕ) (x d : X) → place < length xs → g x ≡ f (get_or xs place d) → new ≡ set xs place x
    → map g (take place xs) ++ map f (drop place xs) ≡ whole → map g (take (place + 1) new) ++ map f (drop (place + 1) new) ≡ whole
put_more {X} {Y} f xs new whole g place x d less same is so_far =
    let more : suc place ≡ place + 1 = omega arith in
    subst (λ n. map g (take n new) ++ map f (drop n new) ≡ whole) more (subst (λ ys. map g (take (suc place) ys) ++ map f (drop (suc place) ys) ≡ whole) (sym is) (step xs place less same ∙ so_far))
  where
    step : (xs : List X) (place : ℕ) → place < length xs → g x ≡ f (get_or xs place d) → map g (take (suc place) (set xs place x)) ++ map f (drop (suc place) (set xs place x)) ≡ map g (take place xs) ++ map f (drop place xs)
    step [] place less same = absurd (omega (arith, less))
    step (z ∷ xs) zero less same = ap (λ y. y ∷ map f xs) same
    step (z ∷ xs) (suc place) less same = ap (λ ys. g z ∷ ys) (step xs place (omega (arith, less)) same)

pub put_one : (f : ℕ → ℕ) (xs : List ℕ) (whole : List ℕ) (place : ℕ) → place < length xs → take place xs ++ map f (drop place xs) ≡ whole
    → take (place + 1) (set xs place (f (get_or xs place 0))) ++ map f (drop (place + 1) (set xs place (f (get_or xs place 0)))) ≡ whole
put_one f xs whole place less so_far =
    let x = f (get_or xs place 0) in
    let more : suc place ≡ place + 1 = omega arith in
    subst (λ n. take n (set xs place x) ++ map f (drop n (set xs place x)) ≡ whole) more (step xs place less ∙ so_far)
  where
    step : (xs : List ℕ) (place : ℕ) → place < length xs → take (suc place) (set xs place (f (get_or xs place 0))) ++ map f (drop (suc place) (set xs place (f (get_or xs place 0)))) ≡ take place xs ++ map f (drop place xs)
    step [] place less = absurd (omega (arith, less))
    step (z ∷ xs) zero less = refl
    step (z ∷ xs) (suc place) less = ap (λ ys. z ∷ ys) (step xs place (omega (arith, less)))

-- what holds behind a place holds there
pub put_here : {X : Type 0} (P : X → Type 0) (xs : List X) (place : ℕ) (d : X) → place < length xs → All P (drop place xs) → P (get_or xs place d)
put_here {X} P xs place d less all = step xs place less (recursion_from_All P (drop place xs) all)
  where
    step : (xs : List X) (place : ℕ) → place < length xs → AllByRecursion P (drop place xs) → P (get_or xs place d)
    step [] place less all = absurd (omega (arith, less))
    step (z ∷ xs) zero less all = all.0
    step (z ∷ xs) (suc place) less all = step xs place (omega (arith, less)) all

-- those behind it stayed
pub put_ahead : {X : Type 0} (P : X → Type 0) (xs new : List X) (place : ℕ) (x : X) → place < length xs → new ≡ set xs place x → All P (drop place xs) → All P (drop (place + 1) new)
put_ahead {X} P xs new place x less is all =
    let more : suc place ≡ place + 1 = omega arith in
    subst (λ n. All P (drop n new)) more (subst (λ ys. All P (drop (suc place) ys)) (sym is) (All-from_recursion P (drop (suc place) (set xs place x)) (step xs place less (recursion_from_All P (drop place xs) all))))
  where
    step : (xs : List X) (place : ℕ) → place < length xs → AllByRecursion P (drop place xs) → AllByRecursion P (drop (suc place) (set xs place x))
    step [] place less all = absurd (omega (arith, less))
    step (z ∷ xs) zero less all = all.1
    step (z ∷ xs) (suc place) less all = step xs place (omega (arith, less)) all
