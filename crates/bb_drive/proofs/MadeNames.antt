-- Names of made nets, and the variables that they are added to.
use Rattle.std.proofs.Common.{arith, ◌≡◌, ℕ, suc, ◌+◌, ◌-◌, ◌<◌, ◌≤◌, ◌^◌, take, Bool, true, false, not, ◌||◌, cond, List, [], ◌∷◌, ◌++◌, map, append_assoc, refl, sym, ap, ◌∙◌, decimal}
use Rattle.std.specs.Prelude.{Some, is_some, filter}
use Rattle.std.specs.List.{range_with_len}
use Rattle.std.specs.Map.{lookup}
use Rattle.std.specs.Str.{bytes_eq}
use Rattle.std.proofs.lemmas.List.Folds.{list_any-append}
use Rattle.std.proofs.lemmas.Fmt.{decimal_injective}
use Rattle.bb_base.specs.Variables.{Entry}
use Rattle.bb_base.specs.declared.variable.Variable.{Variable}
use Rattle.indexmap.specs.IndexMap.{insert_entry}
use Rattle.bb_drive.specs.Nets.{is_variable, made_variable}
use Rattle.bb_base.specs.OwnNames.{made_name}
use Rattle.bb_fault.proofs.Keys.{same_name, put_behind}
use Rattle.bb_base.proofs.BooleanLemmas.{or_false}
use Rattle.bb_drive.proofs.Tallied.{range_next}

-- names -------------------------------------------------------------------

numbers_differ : (j k : ℕ) → k < j → j < 2 ^ 64 → bytes_eq (made_name j) (made_name k) ≡ false
numbers_differ j k less small = go (bytes_eq (made_name j) (made_name k)) refl
  where
    go : (t : Bool) → bytes_eq (made_name j) (made_name k) ≡ t → t ≡ false
    go false h = refl
    go true h =
        let same : made_name j ≡ made_name k = same_name (made_name j) (made_name k) h in
        let digits : decimal j ≡ decimal k = cc same in
        let number : j ≡ k = decimal_injective j k small (omega arith) digits in
        absurd (omega arith)

-- variables ---------------------------------------------------------------

pub is_found : (es : List Entry) (name : List ℕ) → is_some (lookup (bytes_eq name) es) ≡ is_variable es name
is_found [] name = refl
is_found (e ∷ es) name = go (bytes_eq name e.0) (is_found es name)
  where
    go : (t : Bool) → is_some (lookup (bytes_eq name) es) ≡ is_variable es name → is_some (cond t (Some e.1) (lookup (bytes_eq name) es)) ≡ (t || is_variable es name)
    go true h = refl
    go false h = h

pub wire_added : (es new : List Entry) (name key : List ℕ) (v : Variable) → is_variable es name ≡ false → key ≡ name → made_variable name ≡ (name, v) → new ≡ insert_entry bytes_eq es key v → new ≡ es ++ made_variable name ∷ []
wire_added es new name key v free k is h =
    h ∙ (ap (λ x. insert_entry bytes_eq es x v) k ∙ (put_behind es name v (is_found es name ∙ free) ∙ ap (λ e. es ++ e ∷ []) (sym is)))

-- the next number --------------------------------------------------------------

abbrev pub free_names : List Entry → ℕ → ℕ → List (List ℕ)
free_names old k n = filter (λ n. not (is_variable old n)) (map made_name (range_with_len k n))

-- a later name isn't one that was added
pub still_same :
    (old es new : List Entry) (k : ℕ) (added : Bool) → new ≡ cond added (es ++ made_variable (made_name k) ∷ []) es
    → ((j : ℕ) → k ≤ j → j < 2 ^ 64 → is_variable es (made_name j) ≡ is_variable old (made_name j)) → (j : ℕ) → k + 1 ≤ j → j < 2 ^ 64 → is_variable new (made_name j) ≡ is_variable old (made_name j)
still_same old es new k added is before j past small = ap (λ x. is_variable x (made_name j)) is ∙ go added
  where
    go : (t : Bool) → is_variable (cond t (es ++ made_variable (made_name k) ∷ []) es) (made_name j) ≡ is_variable old (made_name j)
    go false = before j (omega arith) small
    go true =
        list_any-append (λ (v : Entry). bytes_eq (made_name j) v.0) es (made_variable (made_name k) ∷ [])
        ∙ (ap (λ t. is_variable es (made_name j) || (t || false)) (numbers_differ j k (omega arith) small) ∙ (or_false (is_variable es (made_name j)) ∙ before j (omega arith) small))

-- what is added of the names from a number on
pub wires_next :
    (old es new : List Entry) (total left rest k : ℕ) (added : Bool) → k < total → 0 < left → added ≡ not (is_variable es (made_name k)) → is_variable es (made_name k) ≡ is_variable old (made_name k)
    → new ≡ cond added (es ++ made_variable (made_name k) ∷ []) es → rest ≡ cond added (left - 1) left
    → new ++ map made_variable (take rest (free_names old (k + 1) (total - (k + 1)))) ≡ es ++ map made_variable (take left (free_names old k (total - k)))
wires_next old es new total left rest k added within some is same new_is rest_is =
    (λ i. new_is i ++ map made_variable (take (rest_is i) (free_names old (k + 1) (total - (k + 1)))))
    ∙ (go added (is ∙ ap not same) ∙ ap (λ r. es ++ map made_variable (take left (filter (λ n. not (is_variable old n)) (map made_name r)))) (sym (range_next total k within)))
  where
    front : (names : List (List ℕ)) → made_name k ∷ take (left - 1) names ≡ take left (made_name k ∷ names)
    front names = let e : left ≡ suc (left - 1) = omega arith in sym (ap (λ n. take n (made_name k ∷ names)) e)

    go : (t : Bool) → t ≡ not (is_variable old (made_name k))
        → cond t (es ++ made_variable (made_name k) ∷ []) es ++ map made_variable (take (cond t (left - 1) left) (free_names old (k + 1) (total - (k + 1))))
        ≡ es ++ map made_variable (take left (cond (not (is_variable old (made_name k))) (made_name k ∷ free_names old (k + 1) (total - (k + 1))) (free_names old (k + 1) (total - (k + 1)))))
    go true h =
        append_assoc es (made_variable (made_name k) ∷ []) (map made_variable (take (left - 1) (free_names old (k + 1) (total - (k + 1)))))
        ∙ (ap (λ names. es ++ map made_variable names) (front (free_names old (k + 1) (total - (k + 1))))
        ∙ ap (λ b. es ++ map made_variable (take left (cond b (made_name k ∷ free_names old (k + 1) (total - (k + 1))) (free_names old (k + 1) (total - (k + 1)))))) h)
    go false h = ap (λ b. es ++ map made_variable (take left (cond b (made_name k ∷ free_names old (k + 1) (total - (k + 1))) (free_names old (k + 1) (total - (k + 1)))))) h
