use Rattle.std.proofs.Common.{◌≡◌, take}
use Rattle.bb_segment.proofs.choice.nets_of.Given as goal

abbrev pub invariant-numbers : goal.invariant-numbers
invariant-numbers l = l.nets.items ≡ take l.number-index l.numbers
