use Rattle.bb_sample.proofs.StageLemmas.{gates_can, gates_given}
use Rattle.bb_sample.proofs.ports.lay.Goals as goal

pub add_wires-requires : goal.add_wires-requires
add_wires-requires c = gates_can c.is_clocked-clocked.result c.args.number c.add_states.new.builder c.requires.some c.requires.few c.is_clocked-clocked.ensures c.in_ok-add_states.ensures

pub returns : goal.returns
returns c = gates_given c.is_clocked-clocked.result c.args.number c.add_states.new.builder c.add_wires.new.builder c.is_clocked-clocked.ensures c.in_ok-add_states.ensures c.in_ok-add_wires.ensures
