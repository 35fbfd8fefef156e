use Rattle.std.proofs.Common.{ap, ◌∙◌}
use Rattle.bb_spell.proofs.Nets.{gate_out, gate_ins}
use Rattle.bb_spell.proofs.text.put_statements.Goals as goal

pub write_statement-requires-clause-out : goal.write_statement-requires-clause-out
write_statement-requires-clause-out c =
    gate_out c.args.named.now c.gates-gate-items.result.now c.gates.gate-index c.gate-item.result c.netlist.ensures.named (c.gates-gate-items.ensures.value ∙ ap (λ a. a.gates) c.netlist.ensures.value) c.gates-test.true c.gate-item.is

pub write_statement-requires-clause-ins : goal.write_statement-requires-clause-ins
write_statement-requires-clause-ins c =
    gate_ins c.args.named.now c.gates-gate-items.result.now c.gates.gate-index c.gate-item.result c.netlist.ensures.named (c.gates-gate-items.ensures.value ∙ ap (λ a. a.gates) c.netlist.ensures.value) c.gates-test.true c.gate-item.is
