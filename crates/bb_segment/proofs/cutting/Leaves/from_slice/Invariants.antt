use Rattle.std.proofs.Common.{◌≡◌, take}
use Rattle.bb_segment.proofs.cutting.Leaves.from_slice.Given as goal

abbrev pub invariant-nets : goal.invariant-nets
invariant-nets l = l.leaves.items ≡ take l.net-index l.nets
