use Rattle.bb_drive.proofs.OriginLaws.{copy_passed, copy_linked}
use Rattle.bb_drive.proofs.origins.link_copies.Goals as goal
use Rattle.bb_drive.proofs.origins.link_copies.Goals.{in-Some, in_default}

pub bits-preserved : goal.bits-preserved
bits-preserved c = elim c.match-back.branch [
  | in-Some w ↦
      let next = copy_linked c.args.backs.now c.bits.bit w.in-Some.net c.bits.newest c.bits.older c.bits-test.true
      (c.requires.inside c.bits.bit w.in-Some.net w.in-Some.is) w.in-Some.is c.bits.invariant in
      rw (w.newest-is, w.older-is) next
  | in_default w ↦ rw (w.newest-is, w.older-is) (copy_passed c.args.backs.now c.bits.bit c.bits.newest c.bits.older w.in_default.is c.bits.invariant)
]
