use Rattle.std.proofs.Common.{◌≡◌, map, take}
use Rattle.bb_reg.specs.Fitting.{cell_at}
use Rattle.bb_reg.proofs.registers.cells_of.Given as goal

abbrev pub invariant-numbers : goal.invariant-numbers
invariant-numbers l = l.own.items ≡ map (cell_at l.cells) (take l.number-index l.numbers)
