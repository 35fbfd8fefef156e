-- The files of the system, of whose contents nothing is told (this project's own).
use Rattle.std.specs.Prelude.{ℕ, Bool, true, false, List, Option}
use Rattle.bb_edge.specs.Told.{BeingRead, Idle, Unknown}

-- whether something is being read, the name that is being written, and the counts of faults
pub record Outside : Type 0 where
  pub reading : Bool
  pub writing : Option (List ℕ)
  pub read_faults : ℕ
  pub write_faults : ℕ

-- something is being read, or nothing
abbrev pub reading_if : Bool → BeingRead
reading_if true = Unknown
reading_if false = Idle
