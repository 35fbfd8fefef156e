use Rattle.std.proofs.Common.{◌≡◌, map, take}
use Rattle.bb_choose.specs.Coding.{coded_cell}
use Rattle.bb_choose.proofs.coding.coded_cells.Given as goal

abbrev pub invariant-cells : goal.invariant-cells
invariant-cells l = l.coded.items ≡ map (coded_cell l.numbers l.columns) (take l.cell-index l.cells)
