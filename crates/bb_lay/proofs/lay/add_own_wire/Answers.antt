use Rattle.bb_lay.proofs.Standing.{last_entry}
use Rattle.bb_lay.proofs.OwnWires.{wire_declared, wire_bits, wire_clock, wire_before, wire_room, wire_adds, own_laid}
use Rattle.bb_lay.specs.Laying.{net_bits}
use Rattle.bb_lay.proofs.lay.add_own_wire.Goals as goal

pub width_of-requires : goal.width_of-requires
width_of-requires c = (last_entry c.args.builder.now.variables (c.args.name, c.args.variable) c.requires.stand).range

pub add_bits-requires-clause-bits : goal.add_bits-requires-clause-bits
add_bits-requires-clause-bits c =
    let adds = wire_declared c.args.builder.now c.declare.new.builder c.args.name c.args.variable c.requires.wire c.in_ok-number.ensures.added in
    wire_bits c.args.builder.now c.declare.new.builder c.args.name c.args.variable adds c.requires.laid c.in_ok-number.number c.width_of.result c.in_ok-number.ensures.number c.width_of.ensures.width

pub add_bits-requires-clause-no_clock : goal.add_bits-requires-clause-no_clock
add_bits-requires-clause-no_clock c =
    let adds = wire_declared c.args.builder.now c.declare.new.builder c.args.name c.args.variable c.requires.wire c.in_ok-number.ensures.added in
    wire_clock c.args.builder.now c.declare.new.builder c.args.name c.args.variable adds c.requires.laid c.in_ok-number.number c.in_ok-number.ensures.number

pub add_bits-requires-clause-before : goal.add_bits-requires-clause-before
add_bits-requires-clause-before c =
    let adds = wire_declared c.args.builder.now c.declare.new.builder c.args.name c.args.variable c.requires.wire c.in_ok-number.ensures.added in
    wire_before c.args.builder.now c.declare.new.builder c.args.name c.args.variable adds c.requires.laid c.in_ok-number.number c.in_ok-number.ensures.number

pub add_bits-requires-clause-room : goal.add_bits-requires-clause-room
add_bits-requires-clause-room c =
    let adds = wire_declared c.args.builder.now c.declare.new.builder c.args.name c.args.variable c.requires.wire c.in_ok-number.ensures.added in
    wire_room c.args.builder.now c.declare.new.builder c.args.name c.args.variable adds c.requires.laid c.width_of.result c.width_of.ensures.width c.requires.stand

pub returns-clause-laid : goal.returns-clause-laid
returns-clause-laid c =
    let adds = wire_declared c.args.builder.now c.declare.new.builder c.args.name c.args.variable c.requires.wire c.in_ok-number.ensures.added in
    let bits = net_bits c.args.named.now.names c.args.of c.in_ok-number.number c.width_of.result in
    own_laid c.args.builder.now c.add_bits.new.builder c.args.name c.args.variable c.args.named.now.names c.args.of c.in_ok-number.number c.width_of.result c.requires.laid c.in_ok-number.ensures.number c.width_of.ensures.width
    (wire_adds c.args.builder.now c.declare.new.builder c.args.name c.args.variable adds c.requires.laid c.add_bits.new.builder bits c.in_ok-add_bits.ensures)
