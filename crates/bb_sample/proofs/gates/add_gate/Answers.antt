use Rattle.std.proofs.Common.{◌∙◌}
use Rattle.bb_sample.proofs.DrawLemmas.{gate_drawn, gate_state}
use Rattle.bb_sample.proofs.gates.add_gate.Goals as goal

pub returns-clause-added : goal.returns-clause-added
returns-clause-added c =
    c.in_ok-push_gate.ensures
    ∙ gate_drawn c.args.builder.now c.args.number c.args.j c.args.draws.now c.draw_operator-op.new.draws c.draw_input-first.new.draws c.draw_input-second.new.draws c.gate_net.result c.draw_input-first.result c.draw_input-second.result
    c.draw_operator-op.result c.requires.state c.draw_operator-op.ensures.state c.draw_input-first.ensures.state c.draw_input-second.ensures.state c.draw_operator-op.ensures.operator c.draw_input-first.ensures.net c.draw_input-second.ensures.net
    c.gate_net.ensures

pub returns-clause-state : goal.returns-clause-state
returns-clause-state c =
    gate_state c.args.number c.args.j c.args.draws.now c.draw_operator-op.new.draws c.draw_input-first.new.draws c.draw_input-second.new.draws c.requires.state c.draw_operator-op.ensures.state c.draw_input-first.ensures.state
    c.draw_input-second.ensures.state
