use Rattle.std.proofs.Common.{◌≡◌, map, take, []}
use Rattle.bb_reg.proofs.registers.no_leaves.Given as goal

abbrev pub invariant-cells : goal.invariant-cells
invariant-cells l = map (λ k. k.items) l.leaves.items ≡ map (λ c. []) (take l.index l.cells)
