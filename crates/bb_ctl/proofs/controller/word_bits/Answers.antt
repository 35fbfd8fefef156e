use Rattle.std.proofs.Common.{◌∷◌, [], ◌+◌, ◌-◌}
use Rattle.bb_terms.specs.declared.wire.Wire.TheVariants.{Word}
use Rattle.bb_terms.specs.Controller.{word_from}
use Rattle.bb_ctl.proofs.RowLemmas.{more, word_next}
use Rattle.bb_ctl.proofs.controller.word_bits.Goals as goal

pub bits-preserved : goal.bits-preserved
bits-preserved c =
    let i = c.bits.i in
    let n = c.args.degree in
    more c.bits.bits.items c.push.new.self.items (Word i ∷ []) (word_from i (n - i)) (word_from (i + 1) (n - (i + 1))) (word_from 0 n) c.bits.invariant c.in_ok-push.ensures.items (word_next i n c.bits-test.true)
