use Rattle.std.proofs.Common.{ℕ, map, sym, ap, ◌∙◌}
use Rattle.bb_base.specs.Booleans.{all_true, some_true, parity_of_bits}
use Rattle.bb_base.specs.Operators.{first_bit}
use Rattle.bb_base.specs.declared.operator.Op.TheVariants.{Nand, Nor, Xnor, Not, One}
use Rattle.bb_base.specs.Net.{Gate}
use Rattle.bb_eqn.specs.Values.{bits_at}
use Rattle.bb_eqn.specs.Lanes.{in_lane}
use Rattle.bb_eqn.proofs.LaneLemmas.{lane_ones, turned, same_gives}
use Rattle.bb_eqn.proofs.lanes.gate_word.Goals as goal

pub returns-in-Nand : goal.returns-in-Nand
returns-in-Nand c = λ t h.
    let ins = c.deref-in-Nand.result.now in
    let values = in_lane t c.args.values.now in
    turned t c.all_of-in-Nand.result (all_true (map (bits_at values) ins)) c.all_of-in-Nand.type_inv h (c.all_of-in-Nand.ensures t h)
    ∙ same_gives values Nand c.args.gate.now.op ins c.args.gate.now.ins (sym c.in-Nand.is ∙ ap (λ (g : Gate ℕ). g.op) c.gate.view_is) (c.deref-in-Nand.ensures ∙ ap (λ (g : Gate ℕ). g.ins) c.gate.view_is)

pub returns-in-Nor : goal.returns-in-Nor
returns-in-Nor c = λ t h.
    let ins = c.deref-in-Nor.result.now in
    let values = in_lane t c.args.values.now in
    turned t c.some_of-in-Nor.result (some_true (map (bits_at values) ins)) c.some_of-in-Nor.type_inv h (c.some_of-in-Nor.ensures t h)
    ∙ same_gives values Nor c.args.gate.now.op ins c.args.gate.now.ins (sym c.in-Nor.is ∙ ap (λ (g : Gate ℕ). g.op) c.gate.view_is) (c.deref-in-Nor.ensures ∙ ap (λ (g : Gate ℕ). g.ins) c.gate.view_is)

pub returns-in-Xnor : goal.returns-in-Xnor
returns-in-Xnor c = λ t h.
    let ins = c.deref-in-Xnor.result.now in
    let values = in_lane t c.args.values.now in
    turned t c.odd_of-in-Xnor.result (parity_of_bits (map (bits_at values) ins)) c.odd_of-in-Xnor.type_inv h (c.odd_of-in-Xnor.ensures t h)
    ∙ same_gives values Xnor c.args.gate.now.op ins c.args.gate.now.ins (sym c.in-Xnor.is ∙ ap (λ (g : Gate ℕ). g.op) c.gate.view_is) (c.deref-in-Xnor.ensures ∙ ap (λ (g : Gate ℕ). g.ins) c.gate.view_is)

pub returns-in-Not : goal.returns-in-Not
returns-in-Not c = λ t h.
    let ins = c.deref-in-Not.result.now in
    let values = in_lane t c.args.values.now in
    turned t c.first_of.result (first_bit (map (bits_at values) ins)) c.first_of.type_inv h (c.first_of.ensures t h)
    ∙ same_gives values Not c.args.gate.now.op ins c.args.gate.now.ins (sym c.in-Not.is ∙ ap (λ (g : Gate ℕ). g.op) c.gate.view_is) (c.deref-in-Not.ensures ∙ ap (λ (g : Gate ℕ). g.ins) c.gate.view_is)

pub returns-in-One : goal.returns-in-One
returns-in-One c = λ t h.
    let ins = c.args.gate.now.ins in
    lane_ones t h ∙ same_gives (in_lane t c.args.values.now) One c.args.gate.now.op ins ins (sym c.in-One.is ∙ ap (λ (g : Gate ℕ). g.op) c.gate.view_is) (ap (λ (g : Gate ℕ). g.ins) (λ i. c.args.gate.now))
