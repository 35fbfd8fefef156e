use Rattle.std.proofs.Common.{arith, sym, subst, ◌∙◌, ap, length, Contains}
use Rattle.std.proofs.lemmas.Option.{slice_get_within}
use Rattle.bb_base.specs.Net.{Gate}
use Rattle.bb_terms.proofs.ReadLemmas.{input_within, reads_none, reads_of, gate_driver, no_stop}
use Rattle.bb_base.proofs.Contained.{contains_at, none_in}
use Rattle.bb_segment.proofs.walk.read_behind.Goals as goal

pub returns-in_default : goal.returns-in_default
returns-in_default c = record {
  within = λ input h. absurd (none_in input h);
  each = λ input h. absurd (none_in input h);
  all = λ input no_stop reads. absurd (reads_none c.args.netlist.now c.driver.result c.args.net input c.driver.ensures.netlist c.requires.within c.driver.ensures.drives c.in_default.not-Gate reads);
}

pub bounds-gates-number : goal.bounds-gates-number
bounds-gates-number c =
    let g = c.in-Gate.ensures.drives in
    let inside = slice_get_within c.args.netlist.now.gates c.in-Gate.number g.0 g.1 in
    let long = ap length c.gates.ensures.value in
    omega (arith, inside, long)

pub returns-clause-within : goal.returns-clause-within
returns-clause-within c = λ input h.
    let g = c.in-Gate.ensures.drives in
    let d = gate_driver c.args.netlist.now c.gates.result.now c.in-Gate.number c.args.net c.index-gates-number.result g c.gates.ensures.value c.index-gates-number.is in
    let ins = c.deref.ensures ∙ ap (λ (g : Gate _). g.ins) c.gate.view_is in
    input_within c.args.netlist.now c.index-gates-number.result input c.driver.ensures.netlist c.requires.few (contains_at c.args.netlist.now.gates c.in-Gate.number c.index-gates-number.result d.0) (subst (λ ns. Contains ns input) ins h)

pub returns-clause-each : goal.returns-clause-each
returns-clause-each c = λ input h.
    let g = c.in-Gate.ensures.drives in
    let d = gate_driver c.args.netlist.now c.gates.result.now c.in-Gate.number c.args.net c.index-gates-number.result g c.gates.ensures.value c.index-gates-number.is in
    let ins = c.deref.ensures ∙ ap (λ (g : Gate _). g.ins) c.gate.view_is in
    (no_stop c.args.stops.now c.args.net c.net.inside.0 c.net.view_is (omega (arith, c.requires.within, c.requires.stops)) c.if-stops-net.false, record { gate = c.index-gates-number.result; stands = contains_at c.args.netlist.now.gates c.in-Gate.number c.index-gates-number.result d.0; drives = d.1; reads = subst (λ ns. Contains ns input) ins h })

pub returns-clause-all : goal.returns-clause-all
returns-clause-all c = λ input no_stop reads.
    let g = c.in-Gate.ensures.drives in
    let d = gate_driver c.args.netlist.now c.gates.result.now c.in-Gate.number c.args.net c.index-gates-number.result g c.gates.ensures.value c.index-gates-number.is in
    let ins = c.deref.ensures ∙ ap (λ (g : Gate _). g.ins) c.gate.view_is in
    subst (λ ns. Contains ns input) (sym ins) (reads_of c.args.netlist.now c.in-Gate.number c.args.net input c.index-gates-number.result c.driver.ensures.netlist c.requires.few d.0 d.1 reads)
