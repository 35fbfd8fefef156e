use Rattle.bb_sample.proofs.StageLemmas.{no_states, states_can, states_given}
use Rattle.bb_sample.proofs.ports.add_states.Goals as goal

pub returns-then-not-clocked : goal.returns-then-not-clocked
returns-then-not-clocked c = no_states c.args.clocked c.args.number c.args.builder.now c.if-not-clocked.true c.requires.ports

pub add_wires-requires : goal.add_wires-requires
add_wires-requires c = states_can c.args.clocked c.args.number c.args.builder.now c.flop_count.result c.requires.few c.if-not-clocked.false c.requires.clocked c.requires.ports c.flop_count.ensures.count

pub returns : goal.returns
returns c = states_given c.args.clocked c.args.number c.args.builder.now c.add_wires.new.builder c.flop_count.result c.if-not-clocked.false c.requires.ports c.flop_count.ensures.count c.in_ok-add_wires.ensures
