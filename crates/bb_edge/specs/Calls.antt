-- The calls of a store in memory: how many there were, and which of them are to fail (this project's own).
use Rattle.std.specs.Prelude.{ℕ, List, Contains}
use Rattle.bb_edge.specs.declared.schedule.Step.{Step}
use Rattle.bb_edge.specs.declared.schedule.Step.TheVariants.{Begin, Piece, PutBegin, PutPiece, PutEnd}
use Rattle.bb_edge.specs.declared.schedule.Fail.{Fail}
use Rattle.bb_edge.specs.Causes.{one_more}

-- the failures that were asked for, and the number of calls of each step so far
pub record Calls : Type 0 where
  pub fails : List Fail
  pub begins : ℕ
  pub pieces : ℕ
  pub put_begins : ℕ
  pub put_pieces : ℕ
  pub put_ends : ℕ

-- how many calls of a step there were, so that the next one has this number
abbrev pub count_of : Step → Calls → ℕ
count_of Begin calls = calls.begins
count_of Piece calls = calls.pieces
count_of PutBegin calls = calls.put_begins
count_of PutPiece calls = calls.put_pieces
count_of PutEnd calls = calls.put_ends

-- the calls once there was one more of a step
abbrev pub with_call : Step → Calls → Calls
with_call Begin calls = record calls { begins = one_more calls.begins }
with_call Piece calls = record calls { pieces = one_more calls.pieces }
with_call PutBegin calls = record calls { put_begins = one_more calls.put_begins }
with_call PutPiece calls = record calls { put_pieces = one_more calls.put_pieces }
with_call PutEnd calls = record calls { put_ends = one_more calls.put_ends }

-- the next call of a step is to fail
abbrev pub IsDue : Step → Calls → Type 0
IsDue step calls = Contains calls.fails (record { step = step; nth = count_of step calls })
