use Rattle.bb_edge.specs.Told.{IsReading}
use Rattle.bb_edge_tests.proofs.outside.pieces.Given as goal

-- the name is still being read
abbrev pub invariant-loop-k : goal.invariant-loop-k
invariant-loop-k g l = IsReading (g.S.Store.reading l.store)
