use Rattle.std.proofs.Common.{arith, ◌∙◌, subst, ap, [], take, Contains}
use Rattle.bb_base.specs.Net.{Gate}
use Rattle.bb_segment.specs.Walks.{HasMore}
use Rattle.bb_terms.specs.Paths.{starts}
use Rattle.bb_segment.proofs.WalkLemmas.{met_first}
use Rattle.bb_terms.proofs.ReadLemmas.{input_within}
use Rattle.bb_segment.proofs.StartLemmas.{start_net, start_gate, starts_gate, read_gate}
use Rattle.bb_base.proofs.Contained.{contains_at}
use Rattle.bb_segment.proofs.walk.begin.Goals as goal

pub meet-requires-clause-met : goal.meet-requires-clause-met
meet-requires-clause-met c = met_first c.args.marks.now c.args.met.now c.requires.clear.none c.requires.clear.long c.requires.clear.few

pub meet_all-requires-clause-met : goal.meet_all-requires-clause-met
meet_all-requires-clause-met c = met_first c.args.marks.now c.args.met.now c.requires.clear.none c.requires.clear.long c.requires.clear.few

pub meet_all-requires-clause-within : goal.meet_all-requires-clause-within
meet_all-requires-clause-within c = λ net h.
    let less = starts_gate c.args.netlist.now c.args.start c.in-Gate.number c.in-Gate.is c.requires.start in
    let at = read_gate c.gates.result.now c.args.netlist.now.gates c.in-Gate.number c.index-gates-number.result c.gates.ensures.value less c.index-gates-number.is in
    let ins = c.deref.ensures ∙ ap (λ (g : Gate _). g.ins) c.gate.view_is in
    let few = c.requires.clear.few in
    let nets = c.requires.nets in
    let inside = input_within c.args.netlist.now c.index-gates-number.result net c.gates.ensures.netlist (omega (arith, few, nets)) (contains_at c.args.netlist.now.gates c.in-Gate.number c.index-gates-number.result at)
    (subst (λ ns. Contains ns net) ins h) in
    omega (arith, inside, nets)

pub returns-in-Gate-clause-has : goal.returns-in-Gate-clause-has
returns-in-Gate-clause-has c = λ from e.
    let less = starts_gate c.args.netlist.now c.args.start c.in-Gate.number c.in-Gate.is c.requires.start in
    let at = read_gate c.gates.result.now c.args.netlist.now.gates c.in-Gate.number c.index-gates-number.result c.gates.ensures.value less c.index-gates-number.is in
    let ins = c.deref.ensures ∙ ap (λ (g : Gate _). g.ins) c.gate.view_is in
    let is = start_gate c.args.netlist.now.gates c.args.start c.in-Gate.number c.index-gates-number.result from c.in-Gate.is at e in
    subst (λ s. HasMore [] (starts s) (take c.meet_all.result c.meet_all.new.met)) is (subst (λ ns. HasMore [] ns (take c.meet_all.result c.meet_all.new.met)) ins c.meet_all.ensures.has)

pub returns-in-Net-clause-has : goal.returns-in-Net-clause-has
returns-in-Net-clause-has c = λ from e.
    let is = start_net c.args.netlist.now.gates c.args.start c.in-Net.net from c.in-Net.is e in
    subst (λ s. HasMore [] (starts s) (take c.meet.result c.meet.new.met)) is c.meet.ensures.has
