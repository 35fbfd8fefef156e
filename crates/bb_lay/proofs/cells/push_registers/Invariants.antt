use Rattle.std.proofs.Common.{◌≡◌, ◌++◌, ◌+◌, drop, length}
use Rattle.bb_terms.specs.Plan.{chain}
use Rattle.bb_terms.proofs.ChainLemmas.{cells_of}
use Rattle.bb_lay.specs.Tables.{all_rows_in}
use Rattle.bb_lay.proofs.cells.push_registers.Given as goal

abbrev pub invariant-registers : goal.invariant-registers
invariant-registers l = record {
  rows : l.rows.items ++ all_rows_in l.reads l.ds l.ahead l.r l.first (drop l.r l.plan.registers) ≡ l.fn.rows.items ++ all_rows_in l.reads l.ds l.ahead 0 0 l.plan.registers;
  count : l.first + length (cells_of (drop l.r l.plan.registers)) ≡ length (chain l.plan);
}
