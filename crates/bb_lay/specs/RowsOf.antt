-- The rows of the written netlist, in their parts.
use Rattle.std.specs.Prelude.{◌≡◌, ℕ, map}
use Rattle.bb_base.specs.Net.{Netlist}
use Rattle.bb_terms.specs.Plan.{PlanValue}
use Rattle.bb_terms.specs.Registers.{control_rows}
use Rattle.bb_written.specs.Cells.{all_cells_from, flops}
use Rattle.bb_written.specs.Written.{written_gate}
use Rattle.bb_lay.specs.declared.rows.Rows.{Rows}

pub record AreRows (a : Netlist ℕ) (p : PlanValue) (rows : Rows) : Type 0 where
  pub kept : rows.kept.items ≡ map (written_gate p) a.gates
  pub control : rows.control.items ≡ control_rows p
  pub cells : rows.cells.items ≡ all_cells_from a p 0 0 p.registers
  pub flops_are : rows.flops.items ≡ flops p
