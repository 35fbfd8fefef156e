-- The uses that the table's pass keeps are those of the whole table.
use Rattle.std.proofs.Common.{arith, ◌≡◌, ℕ, suc, ◌+◌, length, Bool, true, false, not, cond, List, [], ◌∷◌, ◌++◌, fold, refl, sym, ap, ◌∙◌, append_assoc}
use Rattle.std.specs.Prelude.{Some, None, is_some, flat_map}
use Rattle.std.specs.Map.{lookup, keys_of}
use Rattle.std.specs.List.{position, position_or_len}
use Rattle.std.proofs.lemmas.Bool.Decides.{nat_tests}
use Rattle.std.proofs.lemmas.List.Sums.{prefix_len-le-length}
use Rattle.std.specs.Str.{bytes_eq}
use Rattle.bb_base.specs.Variables.{Entry}
use Rattle.bb_base.specs.declared.variable.Variable.{Variable}
use Rattle.bb_parse.specs.declared.syntax.Module.{Module}
use Rattle.bb_scope.specs.Names.{header_names, item_names}
use Rattle.bb_scope.specs.Declarations.{declarations}
use Rattle.bb_scope.specs.Variables.{variables}
use Rattle.bb_scope.specs.Said.{Table, said_in, variable_said, with_decl, with_said}
use Rattle.bb_scope.specs.Uses.{index_in, uses_of, Used, with_use}
use Rattle.bb_fault.proofs.Keys.{name_itself}
use Rattle.bb_width.proofs.TableLaws.{table_of}

abbrev is_in : List Entry → List ℕ → Bool
is_in es name = is_some (lookup (bytes_eq name) es)

append_none : {A : Type 0} (xs : List A) → xs ≡ xs ++ []
append_none [] = refl
append_none (x ∷ xs) = ap (λ z. x ∷ z) (append_none xs)

-- a name that stands keeps its index when variables are added behind
stays : (es more : List Entry) (name : List ℕ) → is_in es name ≡ true → index_in (es ++ more) name ≡ index_in es name
stays [] more name h = cc
stays (e ∷ es) more name h = go (bytes_eq name e.0) h (stays es more name)
  where
    go : (b : Bool) → is_some (cond b (Some e.1) (lookup (bytes_eq name) es)) ≡ true → (is_in es name ≡ true → index_in (es ++ more) name ≡ index_in es name)
        → cond (not b) (1 + index_in (es ++ more) name) 0 ≡ cond (not b) (1 + index_in es name) 0
    go true h k = refl
    go false h k = ap (λ n. 1 + n) (k h)

-- and it stands
still_in : (es more : List Entry) (name : List ℕ) → is_in es name ≡ true → is_in (es ++ more) name ≡ true
still_in [] more name h = cc
still_in (e ∷ es) more name h = go (bytes_eq name e.0) h (still_in es more name)
  where
    go : (b : Bool) → is_some (cond b (Some e.1) (lookup (bytes_eq name) es)) ≡ true → (is_in es name ≡ true → is_in (es ++ more) name ≡ true)
        → is_some (cond b (Some e.1) (lookup (bytes_eq name) (es ++ more))) ≡ true
    go true h k = refl
    go false h k = k h

-- a new name's index is how many variables stand
new_index : (es : List Entry) (name : List ℕ) (v : Variable) → is_in es name ≡ false → index_in (es ++ (name, v) ∷ []) name ≡ index_in es name
new_index [] name v h = ap (λ b. cond (not b) 1 0) (name_itself name)
new_index (e ∷ es) name v h = go (bytes_eq name e.0) h (new_index es name v)
  where
    go : (b : Bool) → is_some (cond b (Some e.1) (lookup (bytes_eq name) es)) ≡ false → (is_in es name ≡ false → index_in (es ++ (name, v) ∷ []) name ≡ index_in es name)
        → cond (not b) (1 + index_in (es ++ (name, v) ∷ []) name) 0 ≡ cond (not b) (1 + index_in es name) 0
    go true h k = refl
    go false h k = ap (λ n. 1 + n) (k h)

new_in : (es : List Entry) (name : List ℕ) (v : Variable) → is_in (es ++ (name, v) ∷ []) name ≡ true
new_in [] name v = ap (λ b. is_some (cond b (Some v) None)) (name_itself name)
new_in (e ∷ es) name v = go (bytes_eq name e.0) (new_in es name v)
  where
    go : (b : Bool) → is_in (es ++ (name, v) ∷ []) name ≡ true → is_some (cond b (Some e.1) (lookup (bytes_eq name) (es ++ (name, v) ∷ []))) ≡ true
    go true h = refl
    go false h = h

-- a name that is added has the index that it is given
added_index : (said : Table) (es : List Entry) (name : List ℕ) → index_in (with_said said es name) name ≡ index_in es name
added_index said es name = go (is_in es name) refl
  where
    go : (b : Bool) → is_in es name ≡ b → index_in (cond b es (es ++ (name, variable_said (said_in said name)) ∷ [])) name ≡ index_in es name
    go true h = refl
    go false h = new_index es name (variable_said (said_in said name)) h

added_in : (said : Table) (es : List Entry) (name : List ℕ) → is_in (with_said said es name) name ≡ true
added_in said es name = go (is_in es name) refl
  where
    go : (b : Bool) → is_in es name ≡ b → is_in (cond b es (es ++ (name, variable_said (said_in said name)) ∷ [])) name ≡ true
    go true h = h
    go false h = new_in es name (variable_said (said_in said name))

-- and keeps it
index_stays : (said : Table) (es : List Entry) (names : List (List ℕ)) (name : List ℕ) → is_in es name ≡ true → index_in (fold (with_said said) es names) name ≡ index_in es name
index_stays said es [] name h = refl
index_stays said es (m ∷ names) name h =
    let one = go (is_in es m) in
    index_stays said (with_said said es m) names name one.0 ∙ one.1
  where
    go :
        (b : Bool) → (is_in (cond b es (es ++ (m, variable_said (said_in said m)) ∷ [])) name ≡ true) × (index_in (cond b es (es ++ (m, variable_said (said_in said m)) ∷ [])) name ≡ index_in es name)
    go true = (h, refl)
    go false = (still_in es ((m, variable_said (said_in said m)) ∷ []) name h, stays es ((m, variable_said (said_in said m)) ∷ []) name h)

-- the variables are those of the table
pub used_vars : (said : Table) (used : Used) (names : List (List ℕ)) → (fold (with_use said) used names).vars ≡ fold (with_said said) used.vars names
used_vars said used [] = refl
used_vars said used (n ∷ names) = used_vars said (with_use said used n) names

-- the uses are those of the table that has all names
pub used_uses :
    (said : Table) (used : Used) (names : List (List ℕ)) → (fold (with_use said) used names).uses ≡ used.uses ++ uses_of (fold (with_said said) used.vars names) names
used_uses said used [] = append_none used.uses
used_uses said used (n ∷ names) =
    let final = fold (with_said said) (with_said said used.vars n) names in
    let same : index_in used.vars n ≡ index_in final n =
    sym (index_stays said (with_said said used.vars n) names n (added_in said used.vars n) ∙ added_index said used.vars n) in
    used_uses said (with_use said used n) names
    ∙ (append_assoc used.uses (index_in used.vars n ∷ []) (uses_of final names) ∙ ap (λ i. used.uses ++ i ∷ uses_of final names) same)

-- the table's pass over a module: the header's uses go, and those of the items stay
pub used_in :
    (m : Module) (said : Table) (none header front last : Used) → said ≡ fold with_decl [] (declarations m) → none.vars ≡ [] → header ≡ fold (with_use said) none (header_names m.header)
    → front.vars ≡ header.vars → front.uses ≡ [] → last ≡ fold (with_use said) front (flat_map item_names m.items)
    → (last.vars ≡ variables m) × (last.uses ≡ uses_of (variables m) (flat_map item_names m.items))
used_in m said none header front last s n h f u l =
    let names = flat_map item_names m.items in
    let in_header : header.vars ≡ fold (with_said said) [] (header_names m.header) =
    ap (λ z. z.vars) h ∙ (used_vars said none (header_names m.header) ∙ ap (λ vs. fold (with_said said) vs (header_names m.header)) n) in
    let in_items : last.vars ≡ fold (with_said said) header.vars names = ap (λ z. z.vars) l ∙ (used_vars said front names ∙ ap (λ vs. fold (with_said said) vs names) f) in
    let vars : last.vars ≡ variables m = table_of m said last.vars header.vars s in_header in_items in
    let final : fold (with_said said) front.vars names ≡ variables m = sym (used_vars said front names) ∙ (ap (λ z. z.vars) (sym l) ∙ vars) in
    (vars, ap (λ z. z.uses) l ∙ (used_uses said front names ∙ ((λ i. u i ++ uses_of (final i) names))))

-- where no variable has a name, its index is how many there are
pub new_index_is : (es : List Entry) (name : List ℕ) (i : ℕ) → None ≡ position (bytes_eq name) (keys_of es) → i ≡ length es → i ≡ index_in es name
new_index_is es name i h e = e ∙ sym (none_there (keys_of es) h ∙ keys-length es)
  where
    keys-length : (es : List Entry) → length (keys_of es) ≡ length es
    keys-length [] = refl
    keys-length (e ∷ es) = ap (λ n. suc n) (keys-length es)

    none_there : (names : List (List ℕ)) → None ≡ position (bytes_eq name) names → position_or_len (bytes_eq name) names ≡ length names
    none_there names h = let within = prefix_len-le-length (λ x. not (bytes_eq name x)) names in grind (arith, nat_tests, h, within)
