-- what the pieces of a text leave in the file that is being written
use Rattle.std.proofs.Common.{◌≡◌, ℕ, List, [], ◌++◌, Option, Some, None, IfSome, refl, sym, ap, ◌∙◌, subst, append_assoc, append-nil}
use Rattle.bb_edge.specs.Told.{Told, Shows, SameBut, IsPrefix, Extends}

-- the file holds what it held and then a front of the text, of which this rest is left
abbrev pub Written : Option (List ℕ) → (List ℕ → Told) → (List ℕ → Told) → List ℕ → List ℕ → Type 0
Written writing old new rest text = IfSome writing (λ name. (front : List ℕ) × (front ++ rest ≡ text) × Extends (old name) (new name) front)

-- nothing is written yet
pub written_start : (writing : Option (List ℕ)) (old : List ℕ → Told) (text : List ℕ) → Written writing old old text text
written_start None old text = tt
written_start (Some name) old text = ([], refl, λ held shown. subst (Shows (old name)) (sym (append-nil held)) shown)

-- what two pieces extend by
pub extends_more : (a b c : Told) (first second : List ℕ) → Extends a b first → Extends b c second → Extends a c (first ++ second)
extends_more a b c first second p q = λ held shown. subst (Shows c) (append_assoc held first second) (q (held ++ first) (p held shown))

-- one more piece is written
pub written_more : (writing now : Option (List ℕ)) (old mid new : List ℕ → Told) (rest piece after text : List ℕ) → now ≡ writing → Written writing old mid rest text
    → IfSome now (λ name. Extends (mid name) (new name) piece) → rest ≡ piece ++ after → Written writing old new after text
written_more None now old mid new rest piece after text e w x s = tt
written_more (Some name) now old mid new rest piece after text e w x s =
    let y = subst (λ v. IfSome v (λ n. Extends (mid n) (new n) piece)) e x in
    (w.0 ++ piece, append_assoc w.0 piece after ∙ ap (λ z. w.0 ++ z) (sym s) ∙ w.1, extends_more (old name) (mid name) (new name) w.0 piece w.2 y)

-- a front of one more piece is written
pub written_front : (writing now : Option (List ℕ)) (old mid new : List ℕ → Told) (rest piece after text : List ℕ) → now ≡ writing → Written writing old mid rest text
    → IfSome now (λ name. (front : List ℕ) × IsPrefix front piece × Extends (mid name) (new name) front) → rest ≡ piece ++ after
    → IfSome writing (λ name. (front : List ℕ) × IsPrefix front text × Extends (old name) (new name) front)
written_front None now old mid new rest piece after text e w x s = tt
written_front (Some name) now old mid new rest piece after text e w x s =
    let y = subst (λ v. IfSome v (λ n. (front : List ℕ) × IsPrefix front piece × Extends (mid n) (new n) front)) e x in
    let left = y.1.0 in
    let split : y.0 ++ left ≡ piece = y.1.1 in (
      w.0 ++ y.0,
      (
        left ++ after,
        append_assoc w.0 y.0 (left ++ after) ∙ ap (λ z. w.0 ++ z) (sym (append_assoc y.0 left after) ∙ ap (λ z. z ++ after) split ∙ sym s) ∙ w.1,
      ),
      extends_more (old name) (mid name) (new name) w.0 y.0 w.2 y.2,
    )

-- all is written
pub written_all : (writing : Option (List ℕ)) (old new : List ℕ → Told) (rest text : List ℕ) → rest ≡ [] → Written writing old new rest text
    → IfSome writing (λ name. Extends (old name) (new name) text)
written_all None old new rest text e w = tt
written_all (Some name) old new rest text e w =
    let whole : w.0 ≡ text = sym (append-nil w.0) ∙ ap (λ z. w.0 ++ z) (sym e) ∙ w.1 in
    subst (Extends (old name) (new name)) whole w.2

-- every other name is as it was before both changes
pub same_more : (writing now : Option (List ℕ)) (old mid new : List ℕ → Told) → now ≡ writing → IfSome writing (λ name. SameBut name old mid)
    → IfSome now (λ name. SameBut name mid new) → IfSome writing (λ name. SameBut name old new)
same_more None now old mid new e p q = tt
same_more (Some name) now old mid new e p q =
    let r = subst (λ v. IfSome v (λ n. SameBut n mid new)) e q in
    λ other apart. r other apart ∙ p other apart
