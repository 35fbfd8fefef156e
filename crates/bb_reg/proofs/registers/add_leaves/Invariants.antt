use Rattle.std.proofs.Common.{◌≡◌, ◌++◌, map, take}
use Rattle.bb_reg.specs.Fitting.{leaves_at}
use Rattle.bb_reg.proofs.registers.add_leaves.Given as goal

abbrev pub invariant-numbers : goal.invariant-numbers
invariant-numbers l = map (λ k. k.items) l.added.items ≡ map (λ k. k.items) l.fn.added.items ++ map (leaves_at (map (λ k. k.items) l.leaves)) (take l.number-index l.numbers)
