use Rattle.std.proofs.Common.{ap, ◌∙◌}
use Rattle.bb_spell.proofs.Nets.{flop_q, flop_d}
use Rattle.bb_spell.proofs.text.put_clocked.Goals as goal

pub write_flop-requires-clause-q : goal.write_flop-requires-clause-q
write_flop-requires-clause-q c =
    flop_q c.args.named.now c.flops-flop-items.result.now c.flops.number c.flop-item.result c.netlist.ensures.named (c.flops-flop-items.ensures.value ∙ ap (λ a. a.flops) c.netlist.ensures.value) c.flops-test.true c.flop-item.is

pub write_flop-requires-clause-d : goal.write_flop-requires-clause-d
write_flop-requires-clause-d c =
    flop_d c.args.named.now c.flops-flop-items.result.now c.flops.number c.flop-item.result c.netlist.ensures.named (c.flops-flop-items.ensures.value ∙ ap (λ a. a.flops) c.netlist.ensures.value) c.flops-test.true c.flop-item.is
