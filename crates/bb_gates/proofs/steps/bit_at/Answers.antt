use Rattle.std.proofs.Common.{arith, ◌≤◌}
use Rattle.bb_gates.proofs.StepLaws.{far}
use Rattle.bb_gates.proofs.steps.bit_at.Goals as goal

pub returns-in-None : goal.returns-in-None
returns-in-None c =
    let past : 128 ≤ c.args.place = omega (arith, c.in-None.ensures) in
    far c.args.number c.args.place c.ranges.number.fits past
