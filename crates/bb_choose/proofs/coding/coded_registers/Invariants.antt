use Rattle.std.proofs.Common.{◌≡◌, map, take}
use Rattle.bb_choose.specs.Coding.{coded_register}
use Rattle.bb_choose.proofs.coding.coded_registers.Given as goal

abbrev pub invariant-registers : goal.invariant-registers
invariant-registers l = l.coded.items ≡ map (coded_register l.numbers l.columns l.masks) (take l.register-index l.registers)
