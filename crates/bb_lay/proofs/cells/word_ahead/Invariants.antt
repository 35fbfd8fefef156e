use Rattle.std.proofs.Common.{◌≡◌, ◌++◌, ◌-◌}
use Rattle.bb_terms.specs.OnBits.{shifted}
use Rattle.bb_terms.specs.declared.wire.Wire.TheVariants.{Feed}
use Rattle.bb_terms.specs.Controller.{word_from}
use Rattle.bb_lay.proofs.cells.word_ahead.Given as goal

abbrev pub invariant-bits : goal.invariant-bits
invariant-bits l = l.ahead.items ++ shifted l.before (word_from l.i (l.degree - l.i)) ≡ shifted Feed (word_from 0 l.degree)
