use Rattle.std.proofs.Common.{sym, ◌∙◌}
use Rattle.bb_scope.proofs.CellLaws.{row_taken, row_passed}
use Rattle.bb_scope.proofs.cells.kind_in.Goals as goal

pub returns-then-eq : goal.returns-then-eq
returns-then-eq c = row_taken c.args.rows.now c.loop-row.row-index _ c.args.name.now _ c.loop-row-test.true (sym c.eq.ensures ∙ c.if-eq.true) c.loop-row.invariant

pub loop-row-preserved : goal.loop-row-preserved
loop-row-preserved c = row_passed c.args.rows.now c.loop-row.row-index _ c.args.name.now _ c.loop-row-test.true (sym c.eq.ensures ∙ c.if-eq.false) c.loop-row.invariant
