use Rattle.std.proofs.Common.{◌≡◌, map, take}
use Rattle.bb_plan.specs.Chain.{column_of_cell}
use Rattle.bb_plan.proofs.segments.columns_of.Given as goal

abbrev pub invariant-cells : goal.invariant-cells
invariant-cells l = l.columns.items ≡ map (column_of_cell l.links) (take l.cell-index l.cells)
