-- Files in memory: a list of names with their bytes, of which the first one counts where a name stands twice (this project's own).
use Rattle.std.specs.Prelude.{◌≡◌, ℕ, suc, List, [], ◌∷◌, Option, Some, None, if◌then◌else◌, slice_index_or}
use Rattle.std.specs.Option.{option_map}
use Rattle.std.specs.Str.{bytes_eq}
use Rattle.bb_edge.specs.Told.{Told, Untold, Absent, Held}

-- a file is its name and its bytes
abbrev pub FileValue : Type 0
FileValue = List ℕ × List ℕ

-- the place of the first file with this name
abbrev pub file_place : List ℕ → List FileValue → Option ℕ
file_place name [] = None
file_place name (f ∷ files) = if bytes_eq f.0 name then Some 0 else option_map suc (file_place name files)

-- what the name holds: the bytes of its first file
abbrev pub held : List FileValue → List ℕ → Told
held [] name = Absent
held (f ∷ files) name = if bytes_eq f.0 name then Held f.1 else held files name

-- the bytes that are told, or none
abbrev pub told_text : Told → List ℕ
told_text Untold = []
told_text Absent = []
told_text (Held bytes) = bytes

-- the files once the name holds these bytes: its file has them, or a new one stands behind the others
abbrev pub with_file : List ℕ → List ℕ → List FileValue → List FileValue
with_file name bytes [] = (name, bytes) ∷ []
with_file name bytes (f ∷ files) = if bytes_eq f.0 name then (f.0, bytes) ∷ files else f ∷ with_file name bytes files

-- the name of the file in this place
abbrev pub file_name : List FileValue → ℕ → List ℕ
file_name files place = (slice_index_or files place ([], [])).0

-- the bytes of the file in this place
abbrev pub bytes_at : List FileValue → ℕ → List ℕ
bytes_at files place = (slice_index_or files place ([], [])).1

-- this place has a file, and its name stands in no earlier place
abbrev pub IsPlace : List FileValue → ℕ → Type 0
IsPlace files place = file_place (file_name files place) files ≡ Some place

-- the file in this place has this name, and the name holds its bytes
pub record IsPlaceOf (files : List FileValue) (name : List ℕ) (place : ℕ) : Type 0 where
  pub first : IsPlace files place
  pub named : file_name files place ≡ name
  pub bytes : held files name ≡ Held (bytes_at files place)
