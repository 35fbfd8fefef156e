use Rattle.std.proofs.Common.{◌≡◌, ◌++◌, take}
use Rattle.bb_plan.specs.Chain.{links_in}
use Rattle.bb_plan.proofs.chain.add_cells.Given as goal

abbrev pub invariant-cells : goal.invariant-cells
invariant-cells l = l.links.items ≡ l.initial.links.items ++ links_in l.register (take l.cell-index l.cells)
