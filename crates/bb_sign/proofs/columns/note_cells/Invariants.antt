use Rattle.std.proofs.Common.{◌≡◌, ℕ, length, drop}
use Rattle.bb_sign.specs.Bits.{noted_column, last_column}
use Rattle.bb_sign.proofs.columns.note_cells.Given as goal

abbrev pub invariant-cells : goal.invariant-cells
invariant-cells l = record {
  long : length l.columns ≡ length l.initial.columns;
  so_far : (net : ℕ) → last_column (drop l.cell-index l.cells) net (noted_column l.columns net) ≡ last_column l.cells net (noted_column l.initial.columns net);
}
