use Rattle.std.proofs.Common.{length, ap, sym, ◌∙◌, arith}
use Rattle.bb_base.specs.Named.{Named}
use Rattle.bb_sample.specs.Sample.{gate_at}
use Rattle.bb_sample.proofs.DrawLemmas.{after_none}
use Rattle.bb_sample.proofs.GateLemmas.{gates_long}
use Rattle.bb_sample.proofs.StageLemmas.{filled, nets_laid, no_gates_laid, no_flops_laid}
use Rattle.bb_sample.proofs.made.fill.Goals as goal

pub add_gates-requires-clause-nets : goal.add_gates-requires-clause-nets
add_gates-requires-clause-nets c = nets_laid c.args.number c.args.builder.now c.requires.laid

pub add_gates-requires-clause-gates : goal.add_gates-requires-clause-gates
add_gates-requires-clause-gates c = no_gates_laid c.args.number c.args.builder.now c.requires.laid

pub add_gates-requires-clause-state : goal.add_gates-requires-clause-state
add_gates-requires-clause-state c = c.new-draws.ensures ∙ sym (after_none c.args.number)

pub add_buffers-requires-clause-nets : goal.add_buffers-requires-clause-nets
add_buffers-requires-clause-nets c = ap (λ (k : Named). length k.names) c.in_ok-add_gates.ensures.added ∙ nets_laid c.args.number c.args.builder.now c.requires.laid

pub add_buffers-requires-clause-gates : goal.add_buffers-requires-clause-gates
add_buffers-requires-clause-gates c =
    let long = gates_long c.args.builder.now c.add_gates.new.builder (gate_at c.args.number) c.args.number c.in_ok-add_gates.ensures.added in
    omega (arith, long, no_gates_laid c.args.number c.args.builder.now c.requires.laid, c.requires.few)

pub add_flops-requires-clause-nets : goal.add_flops-requires-clause-nets
add_flops-requires-clause-nets c =
    ap (λ (k : Named). length k.names) c.in_ok-add_buffers.ensures ∙ ap (λ (k : Named). length k.names) c.in_ok-add_gates.ensures.added ∙ nets_laid c.args.number c.args.builder.now c.requires.laid

pub add_flops-requires-clause-flops : goal.add_flops-requires-clause-flops
add_flops-requires-clause-flops c =
    ap (λ (k : Named). length k.netlist.flops) c.in_ok-add_buffers.ensures ∙ ap (λ (k : Named). length k.netlist.flops) c.in_ok-add_gates.ensures.added ∙ no_flops_laid c.args.number c.args.builder.now c.requires.laid

pub returns : goal.returns
returns c =
    filled c.args.number c.args.builder.now c.add_gates.new.builder c.add_buffers.new.builder c.add_flops.new.builder c.requires.laid c.in_ok-add_gates.ensures.added c.in_ok-add_buffers.ensures c.in_ok-add_flops.ensures
