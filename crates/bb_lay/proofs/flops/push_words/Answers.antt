use Rattle.std.proofs.Common.{◌++◌, ◌∷◌, [], ◌+◌, ◌-◌}
use Rattle.bb_terms.specs.declared.wire.Wire.TheVariants.{Word, WordNext}
use Rattle.bb_written.specs.Cells.{flop, word_flops}
use Rattle.bb_ctl.proofs.RowLemmas.{more}
use Rattle.bb_lay.proofs.FlopLemmas.{words_next}
use Rattle.bb_lay.proofs.flops.push_words.Goals as goal

pub bits-preserved : goal.bits-preserved
bits-preserved c =
    let i = c.bits.i in
    let n = c.args.degree in
    more c.bits.flops.items c.push.new.self.items (flop (Word i) (WordNext i) ∷ []) (word_flops i (n - i)) (word_flops (i + 1) (n - (i + 1))) (c.args.flops.now.items ++ word_flops 0 n) c.bits.invariant c.in_ok-push.ensures.items (words_next i n c.bits-test.true)
