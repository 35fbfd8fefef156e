use Rattle.std.proofs.Common.{arith, ◌+◌, ◌/◌, get_or, drop, sym, ap, ◌∙◌}
use Rattle.std.proofs.lemmas.List.{at_drop_more}
use Rattle.bb_base.specs.Booleans.{xor}
use Rattle.bb_base.specs.Parity.{code_of_bits}
use Rattle.bb_eqn.specs.Lanes.{lane, in_lane}
use Rattle.bb_eqn.proofs.SourceLemmas.{column_with, column_without}
use Rattle.bb_eqn.proofs.source.column_word.Goals as goal
use Rattle.bb_eqn.proofs.source.column_word.Goals.{then-left-eq1, else-left-eq1}

pub loop-row-preserved : goal.loop-row-preserved
loop-row-preserved c = λ t h.
    let rows = c.args.rows.now in
    let i = c.loop-row.row-index in
    let word = c.loop-row.word in
    let left = c.loop-row.left in
    let rest = drop (i + 1) rows in
    let whole = code_of_bits c.args.column (in_lane t rows) in
    let here = sym (at_drop_more (λ ys. xor (lane t word) (code_of_bits left (in_lane t ys))) rows i 0 (omega (arith, c.told-rows))) ∙ c.loop-row.invariant t h in
    elim c.if-left-eq1.branch [
      | then-left-eq1 w ↦ ap (λ s. xor (lane t s) (code_of_bits (left / 2) (in_lane t rest))) w.word-is ∙ column_with t word (get_or rows i 0) left rest whole w.if-left-eq1.true here
      | else-left-eq1 w ↦ ap (λ s. xor (lane t s) (code_of_bits (left / 2) (in_lane t rest))) w.word-is ∙ column_without t word (get_or rows i 0) left rest whole w.if-left-eq1.false here
    ]
