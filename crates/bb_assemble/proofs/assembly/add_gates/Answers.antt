use Rattle.std.proofs.Common.{arith}
use Rattle.bb_base.specs.Net.{renamed_gate}
use Rattle.bb_assemble.specs.Assembling.{number_for}
use Rattle.bb_drive.specs.Origins.{is_marked}
use Rattle.bb_assemble.proofs.PlaceSteps.{gates_few}
use Rattle.bb_assemble.proofs.assembly.add_gates.Goals as goal

pub add_gate-requires-clause-few : goal.add_gate-requires-clause-few
add_gate-requires-clause-few c =
    omega (arith, gates_few c.args.builder.now c.loop-gate.builder (renamed_gate (number_for c.args.numbers.now)) (λ g. is_marked c.args.flags.now g.out) c.args.gates.now c.loop-gate.gate-index c.requires.none c.loop-gate.invariant)
