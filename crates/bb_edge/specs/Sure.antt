-- A store that never fails, as contracts see it (this project's own).
use Rattle.std.specs.Prelude.{ℕ, Bool, true, false, List, [], ◌∷◌, Option, None, Some, if◌then◌else◌, drop}
use Rattle.std.specs.Str.{bytes_eq}
use Rattle.bb_edge.specs.Told.{Told, Untold, Held, BeingRead, Idle, Left}
use Rattle.bb_edge.specs.Files.{FileValue, held, told_text, bytes_at}
use Rattle.bb_edge.specs.declared.files.Place.{Place}

-- its files, the rest of what is being read, whether a name is being written, and all names that were written, the last one first
pub record Sure : Type 0 where
  pub files : List FileValue
  pub reading : Option (List ℕ)
  pub is_writing : Bool
  pub written : List (List ℕ)

-- what a name holds: an absent one is read as empty, and one that was written isn't told any more
abbrev pub told_in : List FileValue → List (List ℕ) → List ℕ → Told
told_in files [] name = Held (told_text (held files name))
told_in files (w ∷ written) name = if bytes_eq w name then Untold else told_in files written name

-- what is being read is told, or nothing is read
abbrev pub left_if : Option (List ℕ) → BeingRead
left_if None = Idle
left_if (Some rest) = Left rest

-- the bytes of a file behind those that were given
abbrev pub rest_at : List FileValue → Place → List ℕ
rest_at files place = drop place.given (bytes_at files place.file)

-- the name that is being written is the last one
abbrev pub writing_in : Bool → List (List ℕ) → Option (List ℕ)
writing_in false written = None
writing_in true [] = None
writing_in true (w ∷ written) = Some w

-- the name that is being written, if one is
abbrev pub writing_of : Sure → Option (List ℕ)
writing_of sure = writing_in sure.is_writing sure.written
