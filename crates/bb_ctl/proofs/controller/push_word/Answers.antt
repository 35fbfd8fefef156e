use Rattle.std.proofs.Common.{◌++◌, ◌∷◌, [], ◌+◌, ◌-◌}
use Rattle.bb_base.specs.declared.operator.Op.TheVariants.{And}
use Rattle.bb_terms.specs.OnBits.{shifted}
use Rattle.bb_terms.specs.declared.wire.Wire.TheVariants.{Word, WordNext, Go, Feed}
use Rattle.bb_terms.specs.Controller.{gate_row, word_from, word_rows}
use Rattle.bb_ctl.proofs.RowLemmas.{more, word_row}
use Rattle.bb_ctl.proofs.controller.push_word.Goals as goal

pub bits-preserved : goal.bits-preserved
bits-preserved c =
    let i = c.bits.i in
    let n = c.args.degree in
    let before = c.bits.before in
    more c.bits.rows.items c.push_row.new.rows.items (gate_row And (WordNext i) (Go ∷ before ∷ []) ∷ []) (word_rows i (shifted before (word_from i (n - i)))) (word_rows (i + 1) (shifted (Word i) (word_from (i + 1) (n - (i + 1)))))
    (c.args.rows.now.items ++ word_rows 0 (shifted Feed (word_from 0 n))) c.bits.invariant c.in_ok-push_row.ensures (word_row i n before c.bits-test.true)
