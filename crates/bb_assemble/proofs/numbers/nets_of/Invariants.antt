use Rattle.std.proofs.Common.{◌≡◌, take, map}
use Rattle.bb_assemble.specs.Assembling.{number_for}
use Rattle.bb_assemble.proofs.numbers.nets_of.Given as goal

abbrev pub invariant-loop-bit : goal.invariant-loop-bit
invariant-loop-bit l = l.nets.items ≡ map (number_for l.numbers) (take l.bit-index l.bits)
