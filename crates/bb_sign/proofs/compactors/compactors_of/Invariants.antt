use Rattle.std.proofs.Common.{take}
use Rattle.std.specs.List.{AllZip}
use Rattle.bb_sign.specs.Compactors.{IsCompactor}
use Rattle.bb_sign.proofs.compactors.compactors_of.Given as goal

abbrev pub invariant-registers : goal.invariant-registers
invariant-registers l = AllZip (IsCompactor l.netlist) (take l.register-index l.plan.registers) l.compactors.items
