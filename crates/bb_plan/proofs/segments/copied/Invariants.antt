use Rattle.std.proofs.Common.{◌≡◌, take}
use Rattle.bb_plan.proofs.segments.copied.Given as goal

abbrev pub invariant-cells : goal.invariant-cells
invariant-cells l = l.copy.items ≡ take l.cell-index l.cells
