use Rattle.std.proofs.Common.{◌≡◌, ◌++◌, map, take}
use Rattle.bb_reg.specs.Chosen.{register_of}
use Rattle.bb_reg.specs.Fitting.{cell_at}
use Rattle.bb_reg.proofs.registers.add_registers.Given as goal

abbrev pub invariant-groups : goal.invariant-groups
invariant-groups l = l.registers.items ≡ l.fn.registers.items ++ map (λ group. register_of (map (cell_at l.cells) group)) (take l.group-index l.groups)
