use Rattle.std.proofs.Common.{◌≡◌, ◌++◌, ◌-◌}
use Rattle.bb_written.specs.Cells.{word_flops}
use Rattle.bb_lay.proofs.flops.push_words.Given as goal

abbrev pub invariant-bits : goal.invariant-bits
invariant-bits l = l.flops.items ++ word_flops l.i (l.degree - l.i) ≡ l.fn.flops.items ++ word_flops 0 l.degree
