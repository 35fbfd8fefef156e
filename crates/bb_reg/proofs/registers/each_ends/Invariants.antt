use Rattle.std.proofs.Common.{◌≡◌, map, take}
use Rattle.bb_reg.specs.Chosen.{seen_cells}
use Rattle.bb_reg.specs.Fitting.{ends_each}
use Rattle.bb_reg.proofs.registers.each_ends.Given as goal

abbrev pub invariant-cells : goal.invariant-cells
invariant-cells l = l.items.items ≡ ends_each (take l.number (seen_cells l.cells (map (λ k. k.items) l.leaves)))
