-- A store that never fails meets what is said of each call.
use Rattle.std.proofs.Common.{◌≡◌, ◌≢◌, ◌++◌, ℕ, Bool, true, false, List, [], ◌∷◌, length, map, Option, Some, Result, Ok, Err, OnOk, IfSome, refl, sym, subst}
use Rattle.std.specs.Str.{bytes_eq}
use Rattle.bb_edge.specs.Told.{Told, Untold, Absent, Held, Shows, Extends}
use Rattle.bb_edge.specs.Files.{FileValue, held, told_text, bytes_at}
use Rattle.bb_edge.specs.Sure.{told_in, writing_in}
use Rattle.bb_edge.proofs.FileLemmas.{bytes_eq-refl}

-- a fact of a call that succeeded
pub on_ok : {T E : Type 0} (result : Result T E) (P : Type 0) → P → OnOk result P
on_ok (Ok x) P h = h
on_ok (Err e) P h = tt

-- what is told of a name is what is read from it
pub text-told : (files : List FileValue) (written : List (List ℕ)) (name text : List ℕ) → told_in files written name ≡ Held text → told_text (held files name) ≡ text
text-told files [] name text h = cc
text-told files (w ∷ written) name text h = go (bytes_eq w name) refl (text-told files written name text)
  where
    go : (t : Bool) → bytes_eq w name ≡ t → (told_in files written name ≡ Held text → told_text (held files name) ≡ text) → told_text (held files name) ≡ text
    go true e rest = let q = rw e at h in cc
    go false e rest = rest (rw e at h)

-- no name is told to be absent
pub told-present : (files : List FileValue) (written : List (List ℕ)) (name : List ℕ) → told_in files written name ≢ Absent
told-present files [] name h = cc
told-present files (w ∷ written) name h = go (bytes_eq w name) refl (told-present files written name)
  where
    go : (t : Bool) → bytes_eq w name ≡ t → (told_in files written name ≢ Absent) → ⊥
    go true e rest = let q = rw e at h in cc
    go false e rest = rest (rw e at h)

-- a name that is being written isn't told, so that its contents extend by any bytes
pub extends-written : (files : List FileValue) (is_writing : Bool) (written : List (List ℕ)) (bytes : List ℕ) → IfSome (writing_in is_writing written) (λ name. Extends (told_in files written name) (told_in files written name) bytes)
extends-written files false written bytes = tt
extends-written files true [] bytes = tt
extends-written files true (w ∷ written) bytes = λ text shown.
    let e = bytes_eq-refl w in
    let same : told_in files (w ∷ written) w ≡ Untold = rw e refl in
    subst (λ (t : Told). Shows t (text ++ bytes)) (sym same) tt

-- a fact on a value that is there
pub at_some : {A : Type 0} (o : Option A) (x : A) (P : A → Type 0) → o ≡ Some x → P x → IfSome o P
at_some {A} o x P is h = subst (λ (w : Option A). IfSome w P) (sym is) h

-- no bytes stand behind all files
pub bytes-past : {A : Type 0} (value : A → FileValue) (xs : List A) → bytes_at (map value xs) (length xs) ≡ []
bytes-past value [] = refl
bytes-past value (x ∷ xs) = bytes-past value xs
