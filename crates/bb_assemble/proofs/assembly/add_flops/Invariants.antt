use Rattle.std.proofs.Common.{◌≡◌, map, take}
use Rattle.bb_assemble.specs.Assembling.{number_for, numbered_flop}
use Rattle.bb_base.specs.Building.{with_flops}
use Rattle.bb_assemble.proofs.assembly.add_flops.Given as goal

abbrev pub invariant-loop-flop : goal.invariant-loop-flop
invariant-loop-flop l = l.builder ≡ with_flops l.fn.builder (map (numbered_flop (number_for l.numbers)) (take l.flop-index l.flops))
