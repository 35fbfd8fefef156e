use Rattle.bb_gf2.proofs.Steps.{Added}
use Rattle.bb_gf2.proofs.vectors.add_where.Given as goal

abbrev pub invariant-loop-each : goal.invariant-loop-each
invariant-loop-each l = Added l.left l.mask l.vector l.each-index l.initial.vectors l.vectors
