use Rattle.std.proofs.Common.{◌≡◌, ◌++◌, drop}
use Rattle.bb_written.specs.Cells.{cell_flops}
use Rattle.bb_lay.proofs.flops.push_cells.Given as goal

abbrev pub invariant-cells : goal.invariant-cells
invariant-cells l = l.flops.items ++ cell_flops l.i (drop l.i l.cells) ≡ l.fn.flops.items ++ cell_flops 0 l.cells
