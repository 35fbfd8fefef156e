use Rattle.std.proofs.Common.{◌≡◌, ◌++◌, ◌-◌}
use Rattle.bb_terms.specs.OnBits.{shifted}
use Rattle.bb_terms.specs.declared.wire.Wire.TheVariants.{Feed}
use Rattle.bb_terms.specs.Controller.{word_from, word_rows}
use Rattle.bb_ctl.proofs.controller.push_word.Given as goal

abbrev pub invariant-bits : goal.invariant-bits
invariant-bits l = l.rows.items ++ word_rows l.i (shifted l.before (word_from l.i (l.degree - l.i))) ≡ l.fn.rows.items ++ word_rows 0 (shifted Feed (word_from 0 l.degree))
