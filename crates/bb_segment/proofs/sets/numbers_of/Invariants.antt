use Rattle.std.proofs.Common.{◌≡◌, take}
use Rattle.bb_segment.proofs.sets.numbers_of.Given as goal

abbrev pub invariant-nets : goal.invariant-nets
invariant-nets l = l.numbers.items ≡ take l.net-index l.nets
