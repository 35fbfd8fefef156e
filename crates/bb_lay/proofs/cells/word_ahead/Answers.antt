use Rattle.std.proofs.Common.{◌∷◌, [], ◌+◌, ◌-◌, ap}
use Rattle.bb_terms.specs.OnBits.{shifted}
use Rattle.bb_terms.specs.declared.wire.Wire.TheVariants.{Word, Feed}
use Rattle.bb_terms.specs.Controller.{word_from}
use Rattle.bb_ctl.proofs.RowLemmas.{more, word_next}
use Rattle.bb_lay.proofs.cells.word_ahead.Goals as goal

pub bits-preserved : goal.bits-preserved
bits-preserved c =
    let i = c.bits.i in
    let n = c.args.degree in
    let before = c.bits.before in
    more c.bits.ahead.items c.push.new.self.items (before ∷ []) (shifted before (word_from i (n - i))) (shifted (Word i) (word_from (i + 1) (n - (i + 1)))) (shifted Feed (word_from 0 n)) c.bits.invariant c.in_ok-push.ensures.items
    (ap (shifted before) (word_next i n c.bits-test.true))
