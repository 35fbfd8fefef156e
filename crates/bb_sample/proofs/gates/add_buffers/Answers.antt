use Rattle.std.proofs.Common.{◌≡◌, ◌∙◌, [], ◌∷◌, arith}
use Rattle.bb_base.specs.declared.operator.Op.TheVariants.{Buf}
use Rattle.bb_base.specs.Building.{with_gates}
use Rattle.bb_sample.specs.Sample.{buffer_at}
use Rattle.bb_sample.proofs.GateLemmas.{gates_more, gates_long}
use Rattle.bb_sample.proofs.gates.add_buffers.Goals as goal

pub push_gate-requires-clause-few : goal.push_gate-requires-clause-few
push_gate-requires-clause-few c =
    let long = gates_long c.args.builder.now c.outputs.builder (buffer_at c.args.number) c.outputs.j c.outputs.invariant in
    omega (arith, long, c.requires.gates, c.outputs-test.true, c.output_count-j-end.ensures.few)

pub outputs-preserved : goal.outputs-preserved
outputs-preserved c =
    let added : c.push_gate.new.builder ≡ with_gates c.outputs.builder (buffer_at c.args.number c.outputs.j ∷ []) =
    c.in_ok-push_gate.ensures ∙ (λ i. with_gates c.outputs.builder (record { op = Buf; out = c.output_net.ensures i; ins = c.gate_net-read.ensures i ∷ [] } ∷ [])) in
    gates_more c.args.builder.now c.outputs.builder c.push_gate.new.builder (buffer_at c.args.number) c.outputs.j c.outputs.invariant added
