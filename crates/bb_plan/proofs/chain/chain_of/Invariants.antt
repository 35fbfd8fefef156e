use Rattle.std.proofs.Common.{◌≡◌, take}
use Rattle.bb_plan.specs.Chain.{links_from}
use Rattle.bb_plan.proofs.chain.chain_of.Given as goal

abbrev pub invariant-registers : goal.invariant-registers
invariant-registers l = l.links.items ≡ links_from 0 (take l.number l.registers)
