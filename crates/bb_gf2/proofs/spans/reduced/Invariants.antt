use Rattle.std.proofs.Common.{take}
use Rattle.bb_base.specs.Span.{IsInCoset}
use Rattle.bb_base.specs.Firsts.{IsLeast}
use Rattle.bb_gf2.proofs.spans.reduced.Given as goal

abbrev pub invariant-loop-row : goal.invariant-loop-row
invariant-loop-row l = IsLeast (IsInCoset (take l.row-index l.rows) l.v) l.least
