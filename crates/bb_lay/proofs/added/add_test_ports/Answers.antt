use Rattle.std.proofs.Common.{refl, length, ◌∷◌, []}
use Rattle.bb_base.specs.declared.variable.Role.TheVariants.{Input, Output}
use Rattle.bb_base.specs.Variables.{Entry}
use Rattle.bb_terms.specs.declared.wire.Wire.TheVariants.{Test, Init, So, Done}
use Rattle.bb_terms.specs.Wires.{symbol_name}
use Rattle.bb_written.specs.Written.{scalar_entry, added_ports}
use Rattle.bb_lay.specs.Laying.{scalar_bits}
use Rattle.bb_lay.proofs.Adding.{first_of}
use Rattle.bb_lay.proofs.Scalars.{scalar_can, scalar_step}
use Rattle.bb_lay.proofs.added.add_test_ports.Goals as goal

abbrev one : Entry
one = scalar_entry Input (symbol_name Test)

abbrev two : Entry
two = scalar_entry Input (symbol_name Init)

abbrev three : Entry
three = scalar_entry Output (symbol_name So)

abbrev four : Entry
four = scalar_entry Output (symbol_name Done)

pub add_port-requires-clause-stand : goal.add_port-requires-clause-stand
add_port-requires-clause-stand c =
    let fn = c.args.builder.now in
    scalar_can fn added_ports fn one (two ∷ three ∷ four ∷ []) (first_of fn added_ports (scalar_bits (length fn.variables) 4) fn.clock refl c.requires.laid) c.requires.stand

pub add_port-requires-2-clause-stand : goal.add_port-requires-2-clause-stand
add_port-requires-2-clause-stand c =
    let fn = c.args.builder.now in
    let start = first_of fn added_ports (scalar_bits (length fn.variables) 4) fn.clock refl c.requires.laid in
    let next = scalar_step fn added_ports fn c.add_port.new.builder one (two ∷ three ∷ four ∷ []) start c.in_ok-add_port.ensures.adds c.in_ok-add_port.ensures.laid in
    scalar_can fn added_ports c.add_port.new.builder two (three ∷ four ∷ []) next c.requires.stand

pub add_port-requires-3-clause-stand : goal.add_port-requires-3-clause-stand
add_port-requires-3-clause-stand c =
    let fn = c.args.builder.now in
    let start = first_of fn added_ports (scalar_bits (length fn.variables) 4) fn.clock refl c.requires.laid in
    let next = scalar_step fn added_ports fn c.add_port.new.builder one (two ∷ three ∷ four ∷ []) start c.in_ok-add_port.ensures.adds c.in_ok-add_port.ensures.laid in
    let later = scalar_step fn added_ports c.add_port.new.builder c.add_port-2.new.builder two (three ∷ four ∷ []) next c.in_ok-add_port-2.ensures.adds c.in_ok-add_port-2.ensures.laid in
    scalar_can fn added_ports c.add_port-2.new.builder three (four ∷ []) later c.requires.stand
