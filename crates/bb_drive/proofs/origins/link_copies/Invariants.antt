use Rattle.bb_drive.specs.Origins.{AreCopies}
use Rattle.bb_drive.proofs.origins.link_copies.Given as goal

abbrev pub invariant-bits : goal.invariant-bits
invariant-bits l = AreCopies l.backs l.bit l.newest l.older
