use Rattle.std.proofs.Common.{◌∷◌, [], ◌+◌, ◌-◌, ap}
use Rattle.bb_terms.specs.OnBits.{shifted}
use Rattle.bb_terms.specs.declared.wire.Wire.TheVariants.{Word, Feed}
use Rattle.bb_terms.specs.Controller.{word_from}
use Rattle.bb_ctl.proofs.RowLemmas.{more, word_next}
use Rattle.bb_ctl.proofs.nets.word_wires.Goals as goal

pub bits-preserved : goal.bits-preserved
bits-preserved c =
    let i = c.bits.i in
    let n = c.args.degree in
    let ahead = c.bits.ahead in
    more c.bits.wires.items c.push.new.self.items (ahead ∷ []) (shifted ahead (word_from i (n - i))) (shifted (Word i) (word_from (i + 1) (n - (i + 1)))) (shifted Feed (word_from 0 n)) c.bits.invariant c.in_ok-push.ensures.items (ap (shifted ahead) (word_next i n c.bits-test.true))
