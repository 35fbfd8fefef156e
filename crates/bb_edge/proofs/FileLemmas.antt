-- Files in memory: what a name holds after a file was found, added or given other bytes.
use Rattle.std.proofs.Common.{◌≡◌, ◌≢◌, ℕ, zero, suc, ◌+◌, ◌<◌, Bool, true, false, List, [], ◌∷◌, ◌++◌, length, map, Option, Some, None, slice_index_or, slice_set, refl, sym, ap, ◌∙◌, subst, arith}
use Rattle.std.proofs.lemmas.List.{get_or_read}
use Rattle.std.proofs.lemmas.Slice.Eq.{bytes_eq-Decides}
use Rattle.std.proofs.lemmas.Iterator.Adapters.{position_from-zero}
use Rattle.std.specs.Option.{option_map}
use Rattle.std.specs.List.{position, position_from}
use Rattle.std.specs.Str.{bytes_eq}
use Rattle.bb_edge.specs.Told.{Absent, Held, SameBut}
use Rattle.bb_edge.specs.Files.{FileValue, file_place, held, with_file, file_name, bytes_at, IsPlaceOf}

-- a name equals itself, and the test of two names tells whether they are equal
pub bytes_eq-refl : (name : List ℕ) → bytes_eq name name ≡ true
bytes_eq-refl name = (bytes_eq-Decides name name).1 refl

pub bytes_eq-same : (a b : List ℕ) → bytes_eq a b ≡ true → a ≡ b
bytes_eq-same a b e = (bytes_eq-Decides a b).0 e

pub bytes_eq-other : (a b : List ℕ) → a ≢ b → bytes_eq a b ≡ false
bytes_eq-other a b n = go (bytes_eq a b) refl
  where
    go : (t : Bool) → bytes_eq a b ≡ t → bytes_eq a b ≡ false
    go true e = absurd (n (bytes_eq-same a b e))
    go false e = e

-- a place behind one more file
moved : (i : ℕ) (place : Option ℕ) → option_map (λ k. (i + 1) + k) place ≡ option_map (λ k. i + k) (option_map suc place)
moved i None = refl
moved i (Some k) = ap Some (omega arith)

-- whether what stands for a file has this name
abbrev has_name : {A : Type 0} → (A → FileValue) → List ℕ → A → Bool
has_name value name a = bytes_eq (value a).0 name

from_place : {A : Type 0} (value : A → FileValue) (name : List ℕ) (xs : List A) (i : ℕ) → position_from (has_name value name) i xs ≡ option_map (λ k. i + k) (file_place name (map value xs))
from_place value name [] i = refl
from_place value name (x ∷ xs) i = go (bytes_eq (value x).0 name) refl (from_place value name xs (i + 1))
  where
    go : (t : Bool) → bytes_eq (value x).0 name ≡ t → position_from (has_name value name) (i + 1) xs ≡ option_map (λ k. (i + 1) + k) (file_place name (map value xs)) → position_from (has_name value name) i (x ∷ xs) ≡ option_map (λ k. i + k) (file_place name (map value (x ∷ xs)))
    go true e h = rw e (ap Some (omega arith))
    go false e h = rw e (h ∙ moved i (file_place name (map value xs)))

zero_more : (place : Option ℕ) → option_map (λ k. 0 + k) place ≡ place
zero_more None = refl
zero_more (Some k) = ap Some (omega arith)

-- the place that a search for the name finds, in what stands for files
pub position-map : {A : Type 0} (value : A → FileValue) (name : List ℕ) (xs : List A) → position (λ (a : A). bytes_eq (value a).0 name) xs ≡ file_place name (map value xs)
position-map value name xs = position_from-zero (has_name value name) xs ∙ from_place value name xs 0 ∙ zero_more (file_place name (map value xs))

map-same : (files : List FileValue) → map (λ (f : FileValue). f) files ≡ files
map-same [] = refl
map-same (f ∷ files) = ap (λ (fs : List FileValue). f ∷ fs) (map-same files)

-- and in files
pub position-name : (name : List ℕ) (files : List FileValue) → position (λ (f : FileValue). bytes_eq f.0 name) files ≡ file_place name files
position-name name files = position-map (λ (f : FileValue). f) name files ∙ ap (file_place name) (map-same files)

-- the name stands in this place, and in no earlier one
abbrev pub IsFirst : List ℕ → List FileValue → ℕ → Type 0
IsFirst name [] place = ⊥
IsFirst name (f ∷ files) zero = bytes_eq f.0 name ≡ true
IsFirst name (f ∷ files) (suc place) = (bytes_eq f.0 name ≡ false) × IsFirst name files place

pub first-place : (name : List ℕ) (files : List FileValue) (place : ℕ) → file_place name files ≡ Some place → IsFirst name files place
first-place name [] place e = cc
first-place name (f ∷ files) place e = go (bytes_eq f.0 name) refl (file_place name files) refl place e (first-place name files)
  where
    go : (t : Bool) → bytes_eq f.0 name ≡ t → (found : Option ℕ) → file_place name files ≡ found → (place : ℕ) → file_place name (f ∷ files) ≡ Some place
        → ((k : ℕ) → file_place name files ≡ Some k → IsFirst name files k) → IsFirst name (f ∷ files) place
    go true e found h zero p rest = e
    go true e found h (suc k) p rest = let q = rw e at p in cc
    go false e None h place p rest = let q = rw (e, h) at p in cc
    go false e (Some k) h zero p rest = let q = rw (e, h) at p in cc
    go false e (Some k) h (suc m) p rest = let q = rw (e, h) at p in (e, rest m (cc))

pub place-first : (name : List ℕ) (files : List FileValue) (place : ℕ) → IsFirst name files place → file_place name files ≡ Some place
place-first name [] place h = absurd h
place-first name (f ∷ files) zero h = rw h refl
place-first name (f ∷ files) (suc place) h = let e = h.0 in rw (e, place-first name files place h.1) refl

pub first-length : (name : List ℕ) (files : List FileValue) (place : ℕ) → IsFirst name files place → place < length files
first-length name [] place h = absurd h
first-length name (f ∷ files) zero h = omega arith
first-length name (f ∷ files) (suc place) h = omega (arith, first-length name files place h.1)

pub file_name-first : (name : List ℕ) (files : List FileValue) (place : ℕ) → IsFirst name files place → file_name files place ≡ name
file_name-first name [] place h = absurd h
file_name-first name (f ∷ files) zero h = bytes_eq-same f.0 name h
file_name-first name (f ∷ files) (suc place) h = file_name-first name files place h.1

pub held-first : (name : List ℕ) (files : List FileValue) (place : ℕ) → IsFirst name files place → held files name ≡ Held (bytes_at files place)
held-first name [] place h = absurd h
held-first name (f ∷ files) zero h = rw h refl
held-first name (f ∷ files) (suc place) h = let e = h.0 in rw e (held-first name files place h.1)

pub held-none : (name : List ℕ) (files : List FileValue) → file_place name files ≡ None → held files name ≡ Absent
held-none name [] h = refl
held-none name (f ∷ files) h = go (bytes_eq f.0 name) refl (file_place name files) refl (held-none name files)
  where
    go : (t : Bool) → bytes_eq f.0 name ≡ t → (found : Option ℕ) → file_place name files ≡ found → (file_place name files ≡ None → held files name ≡ Absent) → held (f ∷ files) name ≡ Absent
    go true e found p rest = let q = rw e at h in cc
    go false e None p rest = rw e (rest p)
    go false e (Some k) p rest = let q = rw (e, p) at h in cc

-- the file in a name's place was given other bytes
pub set-first : (name bytes : List ℕ) (files : List FileValue) (place : ℕ) → IsFirst name files place → slice_set files place (file_name files place, bytes) ≡ with_file name bytes files
set-first name bytes [] place h = absurd h
set-first name bytes (f ∷ files) zero h = rw h refl
set-first name bytes (f ∷ files) (suc place) h = let e = h.0 in rw e (ap (λ fs. f ∷ fs) (set-first name bytes files place h.1))

-- a file was added for a name that had none
pub add-none : (name bytes : List ℕ) (files : List FileValue) → file_place name files ≡ None → files ++ (name, bytes) ∷ [] ≡ with_file name bytes files
add-none name bytes [] h = refl
add-none name bytes (f ∷ files) h = go (bytes_eq f.0 name) refl (file_place name files) refl (add-none name bytes files)
  where
    go : (t : Bool) → bytes_eq f.0 name ≡ t → (found : Option ℕ) → file_place name files ≡ found → (file_place name files ≡ None → files ++ (name, bytes) ∷ [] ≡ with_file name bytes files) → (f ∷ files) ++ (name, bytes) ∷ [] ≡ with_file name bytes (f ∷ files)
    go true e found p rest = let q = rw e at h in cc
    go false e None p rest = rw e (ap (λ fs. f ∷ fs) (rest p))
    go false e (Some k) p rest = let q = rw (e, p) at h in cc

-- the name holds the bytes that it was given
pub held-with_file : (name bytes : List ℕ) (files : List FileValue) → held (with_file name bytes files) name ≡ Held bytes
held-with_file name bytes [] = let e = bytes_eq-refl name in rw e refl
held-with_file name bytes (f ∷ files) = go (bytes_eq f.0 name) refl (held-with_file name bytes files)
  where
    go : (t : Bool) → bytes_eq f.0 name ≡ t → held (with_file name bytes files) name ≡ Held bytes → held (with_file name bytes (f ∷ files)) name ≡ Held bytes
    go true e rest = rw (e, e) refl
    go false e rest = rw (e, e) rest

-- every other name holds what it held
pub held-with_file-other : (name bytes : List ℕ) (files : List FileValue) → SameBut name (held files) (held (with_file name bytes files))
held-with_file-other name bytes [] other apart = let e = bytes_eq-other name other (λ same. apart (sym same)) in rw e refl
held-with_file-other name bytes (f ∷ files) other apart = go (bytes_eq f.0 name) refl (bytes_eq f.0 other) refl (held-with_file-other name bytes files other apart)
  where
    go : (t : Bool) → bytes_eq f.0 name ≡ t → (s : Bool) → bytes_eq f.0 other ≡ s → held (with_file name bytes files) other ≡ held files other → held (with_file name bytes (f ∷ files)) other ≡ held (f ∷ files) other
    go true e true d rest = absurd (apart (sym (bytes_eq-same f.0 other d) ∙ bytes_eq-same f.0 name e))
    go true e false d rest = rw (e, d) refl
    go false e true d rest = rw (e, d) refl
    go false e false d rest = rw (e, d) rest

-- a place keeps its name when a name is given bytes
pub first-with_file : (name : List ℕ) (files : List FileValue) (place : ℕ) (other bytes : List ℕ) → IsFirst name files place → IsFirst name (with_file other bytes files) place
first-with_file name [] place other bytes h = absurd h
first-with_file name (f ∷ files) zero other bytes h = go (bytes_eq f.0 other) refl
  where
    go : (t : Bool) → bytes_eq f.0 other ≡ t → IsFirst name (with_file other bytes (f ∷ files)) zero
    go true e = rw e h
    go false e = rw e h
first-with_file name (f ∷ files) (suc place) other bytes h = go (bytes_eq f.0 other) refl (first-with_file name files place other bytes h.1)
  where
    go : (t : Bool) → bytes_eq f.0 other ≡ t → IsFirst name (with_file other bytes files) place → IsFirst name (with_file other bytes (f ∷ files)) (suc place)
    go true e rest = rw e h
    go false e rest = rw e (h.0, rest)

-- a file that was added is the first of its name
pub first-added : (name bytes : List ℕ) (files : List FileValue) → file_place name files ≡ None → IsFirst name (files ++ (name, bytes) ∷ []) (length files)
first-added name bytes [] h = bytes_eq-refl name
first-added name bytes (f ∷ files) h = go (bytes_eq f.0 name) refl (file_place name files) refl (first-added name bytes files)
  where
    go : (t : Bool) → bytes_eq f.0 name ≡ t → (found : Option ℕ) → file_place name files ≡ found → (file_place name files ≡ None → IsFirst name (files ++ (name, bytes) ∷ []) (length files)) → IsFirst name ((f ∷ files) ++ (name, bytes) ∷ []) (length (f ∷ files))
    go true e found p rest = let q = rw e at h in cc
    go false e None p rest = (e, rest p)
    go false e (Some k) p rest = let q = rw (e, p) at h in cc

-- what a name's place reads as, whatever stands for a place that isn't there
pub read-file : (name : List ℕ) (files items : List FileValue) (place : ℕ) (file : FileValue) → items ≡ files → file_place name files ≡ Some place → file ≡ slice_index_or items place file → file ≡ slice_index_or files place ([], [])
read-file name files items place file same e r =
    get_or_read files place file (first-length name files place (first-place name files place e)) (r ∙ ap (λ fs. slice_index_or fs place file) same) ([], [])

-- the facts on a place that a search for a name found
pub set-place : (name bytes : List ℕ) (files : List FileValue) (place : ℕ) → file_place name files ≡ Some place → slice_set files place (file_name files place, bytes) ≡ with_file name bytes files
set-place name bytes files place e = set-first name bytes files place (first-place name files place e)

pub place-length : (name : List ℕ) (files : List FileValue) (place : ℕ) → file_place name files ≡ Some place → place < length files
place-length name files place e = first-length name files place (first-place name files place e)

-- the first place of a name is its place
pub is_place-first : (name : List ℕ) (files : List FileValue) (place : ℕ) → IsFirst name files place → IsPlaceOf files name place
is_place-first name files place h =
    let same : file_name files place ≡ name = file_name-first name files place h in
    record { first = subst (λ (n : List ℕ). file_place n files ≡ Some place) (sym same) (place-first name files place h); named = same; bytes = held-first name files place h }

pub is_place-found : (name : List ℕ) (files : List FileValue) (place : ℕ) → file_place name files ≡ Some place → IsPlaceOf files name place
is_place-found name files place e = is_place-first name files place (first-place name files place e)

-- a file keeps its place and its name when a name is given bytes
pub is_place-with_file : (name other bytes : List ℕ) (files : List FileValue) (place : ℕ) → file_place name files ≡ Some place → IsPlaceOf (with_file other bytes files) name place
is_place-with_file name other bytes files place e = is_place-first name (with_file other bytes files) place (first-with_file name files place other bytes (first-place name files place e))

-- the place of a file that was added
pub is_place-added : (name bytes : List ℕ) (files : List FileValue) → file_place name files ≡ None → IsPlaceOf (with_file name bytes files) name (length files)
is_place-added name bytes files e =
    is_place-first name (with_file name bytes files) (length files) (subst (λ (fs : List FileValue). IsFirst name fs (length files)) (add-none name bytes files e) (first-added name bytes files e))

-- the file in a name's place was written back with other bytes
pub set-read : (name bytes : List ℕ) (files items : List FileValue) (place : ℕ) (file new : FileValue) → items ≡ files → file_place name files ≡ Some place → file ≡ slice_index_or items place file → new ≡ (file.0, bytes)
    → slice_set items place new ≡ with_file name bytes files
set-read name bytes files items place file new same e r is =
    let read : file ≡ slice_index_or files place ([], []) = read-file name files items place file same e r in
    ap (λ (fs : List FileValue). slice_set fs place new) same ∙ ap (λ (f : FileValue). slice_set files place f) (is ∙ ap (λ (f : FileValue). (f.0, bytes)) read) ∙ set-place name bytes files place e
