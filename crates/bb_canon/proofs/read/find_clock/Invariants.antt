use Rattle.std.proofs.Common.{length}
use Rattle.bb_base.specs.Named.{Named}
use Rattle.bb_canon.specs.Along.{ClockLeft, clock_text}
use Rattle.bb_canon.proofs.read.find_clock.Given as goal

abbrev pub invariant-lines : goal.invariant-lines
invariant-lines l = (a : Named) → ClockLeft (clock_text a) l.text → ClockLeft (clock_text a) l.rest

abbrev pub decreases-lines : goal.decreases-lines
decreases-lines l = length l.rest
