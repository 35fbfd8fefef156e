-- Names as keys of tables.
use Rattle.std.proofs.Common.{rules, ◌≡◌, ℕ, Bool, true, false, cond, List, [], ◌∷◌, ◌++◌, refl, sym, ap, ◌∙◌}
use Rattle.std.proofs.lemmas.Slice.Eq.{bytes_eq-Decides}
use Rattle.std.specs.Prelude.{Option, Some, None, is_some}
use Rattle.std.specs.Option.{option_or}
use Rattle.std.specs.Map.{lookup}
use Rattle.std.specs.Str.{bytes_eq}
use Rattle.indexmap.specs.IndexMap.{insert_entry}

pub same_name : (a b : List ℕ) → bytes_eq a b ≡ true → a ≡ b
same_name a b h = search (rules, bytes_eq-Decides)

pub name_itself : (a : List ℕ) → bytes_eq a a ≡ true
name_itself a = search (rules, bytes_eq-Decides)

pub other_name : (a b : List ℕ) → bytes_eq a b ≡ false → bytes_eq b a ≡ false
other_name a b h = go (bytes_eq b a) refl
  where
    go : (t : Bool) → bytes_eq b a ≡ t → t ≡ false
    go false e = refl
    go true e = sym (name_itself a) ∙ (ap (bytes_eq a) (sym (same_name b a e)) ∙ h)

-- a name that is equal to two others makes these equal
pub alike : (a b q : List ℕ) → bytes_eq q a ≡ true → bytes_eq q b ≡ true → bytes_eq a b ≡ true
alike a b q h k = ap (λ x. bytes_eq x b) (sym (same_name q a h)) ∙ k

-- two choices by tests that don't both hold
swapped : {X : Type 0} (p q : Bool) (x y z : X) → (p ≡ true → q ≡ true → false ≡ true) → cond p x (cond q y z) ≡ cond q y (cond p x z)
swapped true true x y z h = absurd_of (h refl refl)
  where
    absurd_of : false ≡ true → x ≡ y
    absurd_of e = cc
swapped true false x y z h = refl
swapped false true x y z h = refl
swapped false false x y z h = refl

-- the same choice twice
twice : {X : Type 0} (p : Bool) (x y z : X) → cond p x z ≡ cond p x (cond p y z)
twice true x y z = refl
twice false x y z = refl

-- what is found once an entry was put in
pub found : {X : Type 0} (es : List (List ℕ × X)) (k : List ℕ) (v : X) (q : List ℕ) → lookup (bytes_eq q) (insert_entry bytes_eq es k v) ≡ cond (bytes_eq q k) (Some v) (lookup (bytes_eq q) es)
found [] k v q = refl
found {X} (e ∷ es) k v q = go (bytes_eq k e.0) refl (found es k v q)
  where
    go : (t : Bool) → bytes_eq k e.0 ≡ t → lookup (bytes_eq q) (insert_entry bytes_eq es k v) ≡ cond (bytes_eq q k) (Some v) (lookup (bytes_eq q) es)
        → lookup (bytes_eq q) (cond t ((e.0, v) ∷ es) (e ∷ insert_entry bytes_eq es k v)) ≡ cond (bytes_eq q k) (Some v) (cond (bytes_eq q e.0) (Some e.1) (lookup (bytes_eq q) es))
    go true h ih =
        let same : k ≡ e.0 = same_name k e.0 h in
        twice (bytes_eq q e.0) (Some v) (Some e.1) (lookup (bytes_eq q) es) ∙ ap (λ n. cond (bytes_eq q n) (Some v) (cond (bytes_eq q e.0) (Some e.1) (lookup (bytes_eq q) es))) (sym same)
    go false h ih =
        ap (λ z. cond (bytes_eq q e.0) (Some e.1) z) ih ∙ swapped (bytes_eq q e.0) (bytes_eq q k) (Some e.1) (Some v) (lookup (bytes_eq q) es) (λ a b. sym h ∙ alike k e.0 q b a)

pub or_assoc : {X : Type 0} (a b c : Option X) → option_or a (option_or b c) ≡ option_or (option_or a b) c
or_assoc None b c = refl
or_assoc (Some x) b c = refl

-- a new key goes behind the others
pub put_behind : {X : Type 0} (es : List (List ℕ × X)) (k : List ℕ) (v : X) → is_some (lookup (bytes_eq k) es) ≡ false → insert_entry bytes_eq es k v ≡ es ++ (k, v) ∷ []
put_behind [] k v h = refl
put_behind {X} (e ∷ es) k v h = go (bytes_eq k e.0) h (put_behind es k v)
  where
    go : (t : Bool) → is_some (cond t (Some e.1) (lookup (bytes_eq k) es)) ≡ false → (is_some (lookup (bytes_eq k) es) ≡ false → insert_entry bytes_eq es k v ≡ es ++ (k, v) ∷ [])
        → cond t ((e.0, v) ∷ es) (e ∷ insert_entry bytes_eq es k v) ≡ e ∷ (es ++ (k, v) ∷ [])
    go true n ih = cc
    go false n ih = ap (λ z. e ∷ z) (ih n)
