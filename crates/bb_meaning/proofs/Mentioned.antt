-- Each name that a module mentions is that of a variable.
use Rattle.std.proofs.Common.{◌≡◌, ℕ, Bool, true, false, ◌||◌, cond, List, [], ◌∷◌, ◌++◌, map, refl, ap, sym, ◌∙◌, subst, fold, append_assoc}
use Rattle.std.proofs.lemmas.List.Folds.{list_any-append}
use Rattle.std.specs.List.{AllByRecursion}
use Rattle.std.specs.Str.{bytes_eq}
use Rattle.bb_base.proofs.BooleanLemmas.{or_true}
use Rattle.bb_parse.specs.declared.syntax.Module.{Module}
use Rattle.bb_parse.specs.declared.syntax.Decl.{Decl}
use Rattle.bb_fault.proofs.Keys.{same_name, name_itself}
use Rattle.bb_scope.specs.Names.{mentioned, has_name, with_new_name, variable_names}
use Rattle.bb_scope.specs.Declarations.{declarations}
use Rattle.bb_scope.specs.Variables.{entry_of, variables}
use Rattle.bb_drive.specs.Nets.{is_variable}
use Rattle.bb_meaning.proofs.WithinSteps.{AreKnown}

-- a name that stands still stands, and one that is added does
with_kept : (names : List (List ℕ)) (m name : List ℕ) → has_name names name ≡ true → has_name (with_new_name names m) name ≡ true
with_kept names m name h = go (has_name names m)
  where
    go : (b : Bool) → has_name (cond b names (names ++ m ∷ [])) name ≡ true
    go true = h
    go false = list_any-append (bytes_eq name) names (m ∷ []) ∙ ap (λ b. b || has_name (m ∷ []) name) h

-- a name that is added stands
with_added : (names : List (List ℕ)) (m : List ℕ) → has_name (with_new_name names m) m ≡ true
with_added names m = go (has_name names m) refl
  where
    go : (b : Bool) → has_name names m ≡ b → has_name (cond b names (names ++ m ∷ [])) m ≡ true
    go true e = e
    go false e = list_any-append (bytes_eq m) names (m ∷ []) ∙ (ap (λ b. has_name names m || (b || false)) (name_itself m) ∙ or_true (has_name names m))

-- the same for names that are added in turn
all_kept : (names more : List (List ℕ)) (name : List ℕ) → has_name names name ≡ true → has_name (fold with_new_name names more) name ≡ true
all_kept names [] name h = h
all_kept names (m ∷ more) name h = all_kept (with_new_name names m) more name (with_kept names m name h)

pub all_added : (names more : List (List ℕ)) (name : List ℕ) → has_name more name ≡ true → has_name (fold with_new_name names more) name ≡ true
all_added names [] name h = absurd (cc h)
all_added names (m ∷ more) name h = go (bytes_eq name m) refl h (all_added (with_new_name names m) more name)
  where
    go : (b : Bool) → bytes_eq name m ≡ b → (b || has_name more name) ≡ true → (has_name more name ≡ true → has_name (fold with_new_name (with_new_name names m) more) name ≡ true)
        → has_name (fold with_new_name (with_new_name names m) more) name ≡ true
    go true e h rest = all_kept (with_new_name names m) more name (subst (λ n. has_name (with_new_name names m) n ≡ true) (sym (same_name name m e)) (with_added names m))
    go false e h rest = rest h

-- each name that a module mentions is that of a variable
named_entry : (decls : List Decl) (names : List (List ℕ)) (name : List ℕ) → is_variable (map (entry_of decls) names) name ≡ has_name names name
named_entry decls [] name = refl
named_entry decls (n ∷ names) name = ap (λ b. bytes_eq name n || b) (named_entry decls names name)

-- a list has its own items
among : (front : List (List ℕ)) (name : List ℕ) (back : List (List ℕ)) → has_name (front ++ name ∷ back) name ≡ true
among [] name back = ap (λ b. b || has_name back name) (name_itself name)
among (f ∷ front) name back = ap (λ b. bytes_eq name f || b) (among front name back) ∙ or_true (bytes_eq name f)

all_among : (front names : List (List ℕ)) → AllByRecursion (λ n. has_name (front ++ names) n ≡ true) names
all_among front [] = tt
all_among front (n ∷ names) = (among front n names, subst (λ all. AllByRecursion (λ m. has_name all m ≡ true) names) (append_assoc front (n ∷ []) names) (all_among (front ++ n ∷ []) names))

pub mentioned_known : (m : Module) → AreKnown (variables m) (mentioned m)
mentioned_known m = by (mentioned m) (all_among [] (mentioned m))
  where
    by : (names : List (List ℕ)) → AllByRecursion (λ n. has_name (mentioned m) n ≡ true) names → AreKnown (variables m) names
    by [] all = tt
    by (n ∷ names) all = (named_entry (declarations m) (variable_names m) n ∙ all_added [] (mentioned m) n all.0, by names all.1)
