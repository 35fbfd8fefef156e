use Rattle.std.proofs.Common.{◌≡◌, ◌<◌, ℕ, drop}
use Rattle.bb_base.specs.Booleans.{xor}
use Rattle.bb_base.specs.Parity.{code_of_bits}
use Rattle.bb_eqn.specs.Lanes.{lane, in_lane}
use Rattle.bb_eqn.proofs.source.column_word.Given as goal

abbrev pub invariant-loop-row : goal.invariant-loop-row
invariant-loop-row l = (t : ℕ) → t < 64 → xor (lane t l.word) (code_of_bits l.left (in_lane t (drop l.row-index l.rows))) ≡ code_of_bits l.column (in_lane t l.rows)
