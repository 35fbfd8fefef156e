use Rattle.std.proofs.Common.{arith, length}
use Rattle.std.proofs.lemmas.Bool.Decides.{nat_tests}
use Rattle.bb_drive.proofs.Tallied.{range_next}
use Rattle.bb_drive.proofs.drivers.first_twice.Goals as goal

pub loop-bit-preserved : goal.loop-bit-preserved
loop-bit-preserved c =
    let next = range_next (length c.args.drivers.now) c.loop-bit.bit c.loop-bit-test.true in
    grind (arith, nat_tests, next, c.loop-bit.invariant, c.if-drivers-bit-gt1.false)
