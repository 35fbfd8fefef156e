use Rattle.std.proofs.Common.{take, map}
use Rattle.bb_fault.specs.Work.{Clocked}
use Rattle.bb_drive.specs.Origins.{AreMarked}
use Rattle.bb_drive.proofs.marks.mark_d_pins.Given as goal

abbrev pub invariant-flops : goal.invariant-flops
invariant-flops l = AreMarked (map (λ (f : Clocked). f.d) (take l.flop-index l.flops)) l.initial.marks l.marks
