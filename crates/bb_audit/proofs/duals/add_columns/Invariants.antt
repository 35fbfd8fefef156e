use Rattle.std.proofs.Common.{◌≡◌, ◌++◌, map, take}
use Rattle.bb_terms.specs.declared.plan.Cell.{Cell}
use Rattle.bb_audit.proofs.duals.add_columns.Given as goal

abbrev pub invariant-cells : goal.invariant-cells
invariant-cells l = l.columns.items ≡ l.initial.columns.items ++ map (λ (c : Cell). c.column) (take l.cell-index l.cells)
