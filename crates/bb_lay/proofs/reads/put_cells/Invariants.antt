use Rattle.std.proofs.Common.{◌≡◌, ℕ, ◌≤◌, length, drop, slice_get, Some}
use Rattle.bb_terms.specs.declared.wire.Wire.{Wire}
use Rattle.bb_lay.specs.Tables.{read_past}
use Rattle.bb_lay.proofs.reads.put_cells.Given as goal

abbrev pub invariant-cells : goal.invariant-cells
invariant-cells l = record {
  within : l.i ≤ length l.cells;
  long : length l.reads ≡ length l.fn.reads;
  reads : (net : ℕ) (old : Wire) → slice_get l.fn.reads net ≡ Some old → slice_get l.reads net ≡ Some (read_past l.i (drop l.i l.cells) net old);
}

abbrev pub decreases-cells : goal.decreases-cells
decreases-cells l = l.i
