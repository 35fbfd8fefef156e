use Rattle.std.proofs.Common.{◌≡◌, ◌++◌, ◌+◌, length, drop}
use Rattle.bb_terms.specs.Reads.{qs_from}
use Rattle.bb_ctl.proofs.cells.push_qs.Given as goal

abbrev pub invariant-cells : goal.invariant-cells
invariant-cells l = record {
  bits : l.qs.items ++ qs_from (length l.qs.items) (drop l.cell-index l.cells) ≡ l.fn.qs.items ++ qs_from (length l.fn.qs.items) l.cells;
  long : length l.qs.items ≡ length l.fn.qs.items + l.cell-index;
}
