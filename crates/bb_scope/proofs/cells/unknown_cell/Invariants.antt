use Rattle.std.proofs.Common.{◌≡◌, drop}
use Rattle.bb_fault.specs.Firsts.{first_answer}
use Rattle.bb_scope.specs.Cells.{unknown_item}
use Rattle.bb_scope.proofs.cells.unknown_cell.Given as goal

abbrev pub invariant-loop-item : goal.invariant-loop-item
invariant-loop-item l = first_answer unknown_item (drop l.item-index l.items) ≡ first_answer unknown_item l.items
