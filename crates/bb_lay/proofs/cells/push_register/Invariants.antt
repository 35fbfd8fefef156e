use Rattle.std.proofs.Common.{◌≡◌, ◌++◌, ◌+◌, drop}
use Rattle.bb_terms.specs.declared.wire.Wire.TheVariants.{First}
use Rattle.bb_lay.specs.Tables.{rows_in}
use Rattle.bb_lay.proofs.cells.push_register.Given as goal

abbrev pub invariant-cells : goal.invariant-cells
invariant-cells l = record {
  rows : l.rows.items ++ rows_in l.reads l.ds l.ahead l.r l.i l.before (drop l.cell-index l.cells) ≡ l.fn.rows.items ++ rows_in l.reads l.ds l.ahead l.r l.first (First l.r) l.cells;
  count : l.i ≡ l.first + l.cell-index;
}
