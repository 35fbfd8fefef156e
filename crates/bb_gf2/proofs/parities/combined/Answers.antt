use Rattle.std.proofs.Common.{◌+◌, ◌/◌, bit_xor, get_or, drop, sym, ap, ◌∙◌}
use Rattle.std.proofs.lemmas.List.{at_drop_more}
use Rattle.bb_base.specs.Span.{combined}
use Rattle.bb_gf2.proofs.Steps.{sum_with, sum_without}
use Rattle.bb_gf2.proofs.parities.combined.Goals as goal
use Rattle.bb_gf2.proofs.parities.combined.Goals.{then-left-eq1, else-left-eq1}

pub loop-row-preserved : goal.loop-row-preserved
loop-row-preserved c =
    let rows = c.args.rows.now in
    let i = c.loop-row.row-index in
    let sum = c.loop-row.sum in
    let left = c.loop-row.left in
    let rest = drop (i + 1) rows in
    let here = sym (at_drop_more (λ ys. bit_xor sum (combined left ys)) rows i 0 c.loop-row-test.true) ∙ c.loop-row.invariant in
    elim c.if-left-eq1.branch [
      | then-left-eq1 w ↦ ap (λ s. bit_xor s (combined (left / 2) rest)) w.sum-is ∙ sum_with sum left (get_or rows i 0) (combined c.args.mask rows) rest w.if-left-eq1.true here
      | else-left-eq1 w ↦ ap (λ s. bit_xor s (combined (left / 2) rest)) w.sum-is ∙ sum_without sum left (get_or rows i 0) (combined c.args.mask rows) rest w.if-left-eq1.false here
    ]
