use Rattle.std.proofs.Common.{take}
use Rattle.bb_segment.specs.Cutting.{AreGathered}
use Rattle.bb_segment.proofs.cutting.gather.Given as goal

abbrev pub invariant-nets : goal.invariant-nets
invariant-nets l = AreGathered l.table (take l.net-index l.nets) l.numbers.items
