use Rattle.std.proofs.Common.{◌≡◌, take}
use Rattle.bb_choose.specs.Arranged.{source_nets}
use Rattle.bb_choose.proofs.sources.source_nets.Given as goal

abbrev pub invariant-registers : goal.invariant-registers
invariant-registers l = l.nets.items ≡ source_nets (take l.register-index l.registers)
