use Rattle.std.proofs.Common.{◌<◌, ℕ, List, length, sym, subst, ◌∙◌, All}
use Rattle.bb_base.specs.Net.{Gate, driven}
use Rattle.bb_terms.specs.Support.{StartExists}
use Rattle.bb_eqn.specs.Values.{bits_at}
use Rattle.bb_eqn.proofs.Settled.{ins_below}
use Rattle.bb_eqn.specs.Lanes.{in_lane}
use Rattle.bb_sign.proofs.LineLemmas.{gate_bit}
use Rattle.bb_sign.proofs.lines.line_of.Goals as goal

pub gate_word-requires : goal.gate_word-requires
gate_word-requires c =
    let exists = subst (StartExists c.args.netlist.now) c.in-Gate.is c.requires.exists in
    let less = subst (λ (gs : List (Gate ℕ)). c.in-Gate.number < length gs) (sym c.gates.ensures.value) exists in
    let all = subst (λ (gs : List (Gate ℕ)). All (λ g. All (λ n. n < length (driven c.args.netlist.now)) g.ins) gs) (sym c.gates.ensures.value) (ins_below c.args.netlist.now c.gates.ensures.netlist) in
    let here = subst (λ (g : Gate ℕ). All (λ n. n < length (driven c.args.netlist.now)) g.ins) (sym c.index-gates-number.is) (all c.in-Gate.number c.index-gates-number.result less) in
    subst (λ m. All (λ n. n < m) c.index-gates-number.result.ins) (sym c.requires.values) here

pub returns-in-Gate : goal.returns-in-Gate
returns-in-Gate c = λ t small.
    let exists = subst (StartExists c.args.netlist.now) c.in-Gate.is c.requires.exists in
    let less = subst (λ (gs : List (Gate ℕ)). c.in-Gate.number < length gs) (sym c.gates.ensures.value) exists in
    c.gate_word.ensures t small ∙ gate_bit c.args.netlist.now (bits_at (in_lane t c.args.values.now)) c.gates.result.now c.in-Gate.number c.index-gates-number.result c.args.start c.gates.ensures.value less c.index-gates-number.is c.in-Gate.is
