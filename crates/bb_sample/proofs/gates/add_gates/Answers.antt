use Rattle.std.proofs.Common.{arith}
use Rattle.bb_sample.specs.Sample.{gate_at}
use Rattle.bb_sample.proofs.GateLemmas.{gates_more, gates_long}
use Rattle.bb_sample.proofs.gates.add_gates.Goals as goal

pub add_gate-requires-clause-gates : goal.add_gate-requires-clause-gates
add_gate-requires-clause-gates c =
    let long = gates_long c.args.builder.now c.gates.builder (gate_at c.args.number) c.gates.j c.gates.invariant.builder in
    omega (arith, long, c.requires.gates, c.gates-test.true, c.requires.few)

pub gates-preserved : goal.gates-preserved
gates-preserved c = record {
  builder = gates_more c.args.builder.now c.gates.builder c.add_gate.new.builder (gate_at c.args.number) c.gates.j c.gates.invariant.builder c.in_ok-add_gate.ensures.added;
  state = c.in_ok-add_gate.ensures.state;
}
