use Rattle.std.proofs.Common.{take}
use Rattle.bb_drive.specs.Origins.{AreMarked}
use Rattle.bb_drive.proofs.marks.mark_nets.Given as goal

abbrev pub invariant-nets : goal.invariant-nets
invariant-nets l = AreMarked (take l.net-index l.nets) l.initial.marks l.marks
