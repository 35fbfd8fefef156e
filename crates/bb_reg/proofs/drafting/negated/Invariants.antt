use Rattle.std.proofs.Common.{◌≡◌, map, take, not}
use Rattle.bb_reg.proofs.drafting.negated.Given as goal

abbrev pub invariant-bits : goal.invariant-bits
invariant-bits l = l.others.items ≡ map not (take l.bit-index l.bits)
