use Rattle.std.proofs.Common.{◌∙◌, arith}
use Rattle.bb_sample.specs.Sample.{flop_at}
use Rattle.bb_sample.proofs.DrawLemmas.{flop_drawn, flop_state}
use Rattle.bb_sample.proofs.GateLemmas.{flops_more, flops_long}
use Rattle.bb_sample.proofs.gates.add_flops.Goals as goal

pub flop-requires-clause-few : goal.flop-requires-clause-few
flop-requires-clause-few c =
    let long = flops_long c.args.builder.now c.flops.builder (flop_at c.args.number) c.flops.i c.flops.invariant.builder in
    omega (arith, long, c.requires.flops, c.flops-test.true, c.flop_count-i-end.ensures.few, c.requires.few)

pub flops-preserved : goal.flops-preserved
flops-preserved c = record {
  builder = flops_more c.args.builder.now c.flops.builder c.flop.new.self (flop_at c.args.number) c.flops.i c.flops.invariant.builder
      (c.in_ok-flop.ensures.ok
      ∙ flop_drawn c.flops.builder c.args.number c.flops.i c.flops.draws c.draw_gate-d.new.draws c.state_net.result c.draw_gate-d.result c.flops.invariant.state c.draw_gate-d.ensures.state c.state_net.ensures c.draw_gate-d.ensures.net);
  state = flop_state c.args.number c.flops.i c.flops.draws c.draw_gate-d.new.draws c.flops.invariant.state c.draw_gate-d.ensures.state;
}
