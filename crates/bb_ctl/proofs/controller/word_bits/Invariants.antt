use Rattle.std.proofs.Common.{◌≡◌, ◌++◌, ◌-◌}
use Rattle.bb_terms.specs.Controller.{word_from}
use Rattle.bb_ctl.proofs.controller.word_bits.Given as goal

abbrev pub invariant-bits : goal.invariant-bits
invariant-bits l = l.bits.items ++ word_from l.i (l.degree - l.i) ≡ word_from 0 l.degree
