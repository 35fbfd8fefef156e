use Rattle.bb_sample.proofs.StageLemmas.{inputs_can, inputs_given, outputs_can, outputs_given}
use Rattle.bb_sample.proofs.ports.add_ports.Goals as goal

pub add_port-requires-clause-can : goal.add_port-requires-clause-can
add_port-requires-clause-can c = inputs_can c.args.clocked c.args.builder.now c.input_count.result c.requires.begun c.input_count.ensures.count

pub add_port-requires-2-clause-can : goal.add_port-requires-2-clause-can
add_port-requires-2-clause-can c =
    let inputs = inputs_given c.args.clocked c.args.builder.now c.add_port.new.builder c.input_count.result c.requires.begun c.input_count.ensures.count c.in_ok-add_port.ensures in
    outputs_can c.args.clocked c.args.number c.add_port.new.builder c.output_count.result c.requires.some inputs c.output_count.ensures.count

pub returns : goal.returns
returns c =
    let inputs = inputs_given c.args.clocked c.args.builder.now c.add_port.new.builder c.input_count.result c.requires.begun c.input_count.ensures.count c.in_ok-add_port.ensures in
    outputs_given c.args.clocked c.args.number c.add_port.new.builder c.add_port-2.new.builder c.output_count.result inputs c.output_count.ensures.count c.in_ok-add_port-2.ensures
