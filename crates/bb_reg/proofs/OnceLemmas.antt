-- First fit leaves each item once.
use Rattle.std.proofs.Common.{arith, ◌≡◌, ℕ, Bool, true, false, not, ◌&&◌, nat_lt, List, [], ◌∷◌, ◌++◌, length, map, refl, sym, ap, ◌∙◌, subst, if◌then◌else◌, append_assoc, append-nil}
use Rattle.std.specs.List.{fold, flat_map, list_any}
use Rattle.std.specs.List.Sorted.{IsPermutation}
use Rattle.std.proofs.lemmas.List.Sorted.{IsPermutation-refl, IsPermutation-trans, IsPermutation-append_left, IsPermutation-append_right, IsPermutation-append_comm, IsPermutation-append, IsPermutation-map}
use Rattle.bb_base.proofs.Lists.{map_join}
use Rattle.bb_terms.specs.declared.plan.Cell.{Cell}
use Rattle.bb_terms.specs.Plan.{RegisterValue}
use Rattle.bb_reg.specs.Draft.{DraftValue}
use Rattle.bb_reg.specs.Chosen.{Seen, clash, first_fit, fitted, in_runs, in_registers, seen_cells, register_of, grouped_of}

pub fitted_once : {X : Type 0} (fits : X → List X → Bool) (xs : List X) → IsPermutation xs (flat_map (λ group. group) (fitted fits xs))
fitted_once {X} fits xs = on [] xs
  where
    one : (groups : List (List X)) (x : X) → IsPermutation (flat_map (λ group. group) groups ++ x ∷ []) (flat_map (λ group. group) (first_fit fits groups x))
    one [] x = IsPermutation-refl (x ∷ [])
    one (group ∷ more) x = by (fits x group) (one more x)
      where
        by : (b : Bool) → IsPermutation (flat_map (λ group. group) more ++ x ∷ []) (flat_map (λ group. group) (first_fit fits more x))
            → IsPermutation ((group ++ flat_map (λ group. group) more) ++ x ∷ []) (flat_map (λ group. group) (if b then (group ++ x ∷ []) ∷ more else group ∷ first_fit fits more x))
        by true rest =
            subst (λ ks. IsPermutation ks ((group ++ x ∷ []) ++ flat_map (λ group. group) more)) (sym (append_assoc group (flat_map (λ group. group) more) (x ∷ [])))
            (subst (IsPermutation (group ++ (flat_map (λ group. group) more ++ x ∷ []))) (sym (append_assoc group (x ∷ []) (flat_map (λ group. group) more)))
            (IsPermutation-append_right group (flat_map (λ group. group) more ++ x ∷ []) (x ∷ flat_map (λ group. group) more) (IsPermutation-append_comm (flat_map (λ group. group) more) (x ∷ []))))
        by false rest =
            subst (λ ks. IsPermutation ks (group ++ flat_map (λ group. group) (first_fit fits more x))) (sym (append_assoc group (flat_map (λ group. group) more) (x ∷ [])))
            (IsPermutation-append_right group (flat_map (λ group. group) more ++ x ∷ []) (flat_map (λ group. group) (first_fit fits more x)) rest)

    on : (groups : List (List X)) (xs : List X) → IsPermutation (flat_map (λ group. group) groups ++ xs) (flat_map (λ group. group) (fold (first_fit fits) groups xs))
    on groups [] = subst (λ ks. IsPermutation ks (flat_map (λ group. group) groups)) (sym (append-nil (flat_map (λ group. group) groups))) (IsPermutation-refl (flat_map (λ group. group) groups))
    on groups (x ∷ xs) =
        let joined = subst (λ ks. IsPermutation ks (flat_map (λ group. group) (first_fit fits groups x) ++ xs)) (append_assoc (flat_map (λ group. group) groups) (x ∷ []) xs)
        (IsPermutation-append_left xs (flat_map (λ group. group) groups ++ x ∷ []) (flat_map (λ group. group) (first_fit fits groups x)) (one groups x)) in
        IsPermutation-trans (flat_map (λ group. group) groups ++ x ∷ xs) (flat_map (λ group. group) (first_fit fits groups x) ++ xs) (flat_map (λ group. group) (fold (first_fit fits) (first_fit fits groups x) xs)) joined (on (first_fit fits groups x) xs)

flat_join : {X Y : Type 0} (f : X → List Y) (xs ys : List X) → flat_map f (xs ++ ys) ≡ flat_map f xs ++ flat_map f ys
flat_join f [] ys = refl
flat_join f (x ∷ xs) ys = ap (λ k. f x ++ k) (flat_join f xs ys) ∙ sym (append_assoc (f x) (flat_map f xs) (flat_map f ys))

runs_flat : (runs : List (List Cell)) → flat_map (λ (g : RegisterValue). g.cells) (map register_of runs) ≡ flat_map (λ run. run) runs
runs_flat [] = refl
runs_flat (run ∷ runs) = ap (λ k. run ++ k) (runs_flat runs)

groups_flat : (groups : List (List Seen)) → flat_map (λ (g : RegisterValue). g.cells) (map (λ group. register_of (map (λ o. o.cell) group)) groups) ≡ map (λ o. o.cell) (flat_map (λ group. group) groups)
groups_flat [] = refl
groups_flat (group ∷ groups) = ap (λ k. map (λ (o : Seen). o.cell) group ++ k) (groups_flat groups) ∙ sym (map_join (λ o. o.cell) group (flat_map (λ group. group) groups))

seen_back : (cells : List Cell) (leaves : List (List ℕ)) → length leaves ≡ length cells → map (λ o. o.cell) (seen_cells cells leaves) ≡ cells
seen_back [] leaves long = refl
seen_back (c ∷ cells) [] long = absurd (omega (arith, long))
seen_back (c ∷ cells) (l ∷ leaves) long = ap (λ k. c ∷ k) (seen_back cells leaves (omega (arith, long)))

-- the chain has the draft's cells, each once
pub chain_once : (draft : DraftValue) (most : ℕ) → length draft.leaves ≡ length draft.observers → IsPermutation (draft.sources ++ draft.observers) (flat_map (λ (g : RegisterValue). g.cells) (grouped_of draft most).registers)
chain_once draft most long =
    let seen = seen_cells draft.observers draft.leaves in
    let runs = in_runs most draft.sources in
    let groups = in_registers most seen in
    let sources = fitted_once (λ (c : Cell) run. nat_lt (length run) most) draft.sources in
    let observers : IsPermutation draft.observers (map (λ o. o.cell) (flat_map (λ group. group) groups)) = subst (λ ks. IsPermutation ks (map (λ (o : Seen). o.cell) (flat_map (λ group. group) groups))) (seen_back draft.observers draft.leaves long)
    (IsPermutation-map (λ (o : Seen). o.cell) seen (flat_map (λ group. group) groups) (fitted_once (λ o register. nat_lt (length register) most && not (list_any (clash o) register)) seen)) in
    let flat : flat_map (λ (g : RegisterValue). g.cells) (grouped_of draft most).registers ≡ flat_map (λ run. run) runs ++ map (λ o. o.cell) (flat_map (λ group. group) groups) =
    flat_join (λ (g : RegisterValue). g.cells) (map register_of runs) (map (λ group. register_of (map (λ o. o.cell) group)) groups) ∙ (λ k. runs_flat runs k ++ groups_flat groups k) in
    subst (IsPermutation (draft.sources ++ draft.observers)) (sym flat)
    (IsPermutation-append draft.sources (flat_map (λ run. run) runs) draft.observers (map (λ o. o.cell) (flat_map (λ group. group) groups)) sources observers)
