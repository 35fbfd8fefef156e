use Rattle.std.proofs.Common.{arith, length, ◌≡◌, true}
use Rattle.bb_base.specs.Variables.{is_port}
use Rattle.bb_assemble.specs.Assembling.{is_kept}
use Rattle.bb_assemble.proofs.RoomLaws.{port_few, bits_last}
use Rattle.bb_assemble.proofs.PlaceSteps.{port_added, port_role}
use Rattle.bb_assemble.proofs.assembly.add_variable.Goals as goal

pub returns-in-Input : goal.returns-in-Input
returns-in-Input c =
    let port : is_port c.args.variable.role ≡ true = port_role c.args.variable.role c.in-Input.is in
    port_added c.args.builder.now c.declare.new.builder (is_kept c.args.numbers.now c.args.count) c.args.extent.number c.args.extent.first c.args.extent.width (c.args.name, c.args.variable) c.args.place c.in_ok-declare.ensures.added c.requires.number
    c.requires.width port (λ p e. (c.requires.clock p e).0) (c.requires.port port)

pub declare-requires-clause-room : goal.declare-requires-clause-room
declare-requires-clause-room c =
    let few = port_few (is_kept c.args.numbers.now c.args.count) (length c.args.builder.now.variables) c.args.extent.first c.args.extent.width c.args.variable c.args.place c.requires.width (λ p e. (c.requires.clock p e).0) c.requires.port in
    omega (arith, few, c.requires.names, c.requires.within, c.requires.room)

pub add_places-requires-clause-bits : goal.add_places-requires-clause-bits
add_places-requires-clause-bits c = bits_last c.args.builder.now c.declare.new.builder (c.args.name, c.args.variable) c.args.place _ c.args.extent.number c.args.extent.width c.in_ok-declare.ensures.added c.requires.number c.requires.width
