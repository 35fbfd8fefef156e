-- A store and a sink in memory, as contracts see them (this project's own).
use Rattle.std.specs.Prelude.{ℕ, List, Option, Some, None, IfSome, drop}
use Rattle.bb_edge.specs.Told.{BeingRead, Idle, Left}
use Rattle.bb_edge.specs.Files.{FileValue, IsPlace, held, file_name, told_text}
use Rattle.bb_edge.specs.Calls.{Calls}
use Rattle.bb_edge.specs.declared.files.Place.{Place}

-- a store in memory: its files, the name that is being read with the number of its bytes that were given, the name that
-- is being written, its calls, and its counts of faults
pub record Memory : Type 0 where
  pub files : List FileValue
  pub reading : Option (List ℕ × ℕ)
  pub writing : Option (List ℕ)
  pub calls : Calls
  pub read_faults : ℕ
  pub write_faults : ℕ

-- the bytes of the name that is being read, but for those that were given
abbrev pub rest_in : List FileValue → Option (List ℕ × ℕ) → BeingRead
rest_in files None = Idle
rest_in files (Some place) = Left (drop place.1 (told_text (held files place.0)))

-- what is being read from a store in memory
abbrev pub reading_of : Memory → BeingRead
reading_of memory = rest_in memory.files memory.reading

-- a sink in memory: the bytes that were put, the number of the put that is to fail, the number of puts, and the count of faults
pub record Puts : Type 0 where
  pub bytes : List ℕ
  pub fail_at : Option ℕ
  pub puts : ℕ
  pub faults : ℕ

-- the file that is being read and the one that is being written are the first of their names
pub record HasPlaces (files : List FileValue) (reading : Option Place) (writing : Option ℕ) : Type 0 where
  pub reading_first : IfSome reading (λ place. IsPlace files place.file)
  pub writing_first : IfSome writing (λ file. IsPlace files file)

-- a place in a file, by the file's name
abbrev pub named_place : List FileValue → Place → List ℕ × ℕ
named_place files place = (file_name files place.file, place.given)
