use Rattle.std.proofs.Common.{◌≡◌, ℕ, set, ap, ◌∙◌}
use Rattle.bb_base.specs.Net.{Gate}
use Rattle.bb_eqn.specs.Lanes.{in_lane}
use Rattle.bb_eqn.proofs.LaneLemmas.{lane_set}
use Rattle.bb_eqn.proofs.sequence.write_gate.Goals as goal

pub returns-clause-lanes : goal.returns-clause-lanes
returns-clause-lanes c = λ t h.
    let out : c.gate-inside.inside.0.1.0.0 ≡ c.args.gate.now.out = ap (λ g. g.out) c.gate-inside.view_is ∙ ap (λ (g : Gate ℕ). g.out) c.gate.view_is in
    lane_set t c.args.values.now c.gate-inside.inside.0.1.0.0 c.gate_word-word.result
    ∙ (λ i. set (in_lane t c.args.values.now) (out i) (c.gate_word-word.ensures t h i))
