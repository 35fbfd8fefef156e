use Rattle.std.proofs.Common.{◌∙◌}
use Rattle.bb_eqn.proofs.TransposeLemmas.{even_from, odd_from, even_row, odd_row}
use Rattle.bb_eqn.proofs.exchange.exchanged_row.Goals as goal

pub returns-then-row-step-eq0 : goal.returns-then-row-step-eq0
returns-then-row-step-eq0 c = λ t h. c.lower_row.ensures t h ∙ even_row c.args.step c.args.row t c.args.block.now (even_from c.args.step c.args.mask c.args.row c.requires.round c.if-row-step-eq0.true)

pub returns-else-row-step-eq0 : goal.returns-else-row-step-eq0
returns-else-row-step-eq0 c = λ t h. c.upper_row.ensures t h ∙ odd_row c.args.step c.args.row t c.args.block.now (odd_from c.args.step c.args.mask c.args.row c.requires.round c.if-row-step-eq0.false)
