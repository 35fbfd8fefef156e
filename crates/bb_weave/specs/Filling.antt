-- When rows can be added to a builder. No public contract cites this.
use Rattle.std.specs.Prelude.{◌+◌, ◌^◌, ◌<◌, List, length, ℕ}
use Rattle.std.specs.List.{AllByRecursion}
use Rattle.bb_base.specs.Net.{HasArity}
use Rattle.bb_base.specs.Named.{Named}
use Rattle.bb_terms.specs.Plan.{PlanValue, chain}
use Rattle.bb_terms.specs.Reads.{qs_from}
use Rattle.bb_terms.specs.Registers.{control_rows}
use Rattle.bb_terms.specs.Numbering.{wires_in, HasWire, HasDistinctNets}
use Rattle.bb_lay.specs.Laying.{HasBothWires}
use Rattle.bb_lay.specs.declared.rows.Rows.{Rows}

-- each symbol has a net of its own, each gate has as many inputs as its operator takes, and there are few of them
pub record CanFill (b : Named) (kept : List ℕ) (p : PlanValue) (rows : Rows) : Type 0 where
  pub distinct : HasDistinctNets b
  pub kept_stand : AllByRecursion (HasWire b kept) (wires_in rows.kept.items)
  pub control_stand : AllByRecursion (HasWire b kept) (wires_in (control_rows p))
  pub cells_stand : AllByRecursion (HasWire b kept) (wires_in rows.cells.items)
  pub flops_stand : AllByRecursion (HasBothWires b kept) rows.flops.items
  pub qs_stand : AllByRecursion (HasWire b kept) (qs_from 0 (chain p))
  pub kept_arities : AllByRecursion HasArity rows.kept.items
  pub cell_arities : AllByRecursion HasArity rows.cells.items
  pub few_kept : length b.netlist.gates + length rows.kept.items < 2 ^ 31
  pub few_cells : length b.netlist.gates + (length rows.kept.items + (length (control_rows p) + length rows.cells.items)) < 2 ^ 32
  pub few_flops : length b.netlist.flops + length rows.flops.items < 2 ^ 32
