use Rattle.std.proofs.Common.{arith, List, length, sym, ap, subst, ◌∙◌}
use Rattle.bb_base.specs.Net.{driven}
use Rattle.bb_terms.specs.Plan.{PlanValue}
use Rattle.bb_plan.specs.declared.chain.Link.{Link}
use Rattle.bb_plan.specs.Chain.{links_from, AreOnNets, HaveOneSource, AreSources}
use Rattle.bb_plan.proofs.LayoutLemmas.{few_links, few_in_plan, on_nets, sources_once, stops_same}
use Rattle.bb_plan.proofs.layout.layout_of.Goals as goal

pub chain_of-requires : goal.chain_of-requires
chain_of-requires c = record {
  few = (
      let few = few_in_plan c.args.netlist.now c.args.plan.now c.requires.before in
      let same = ap length (c.deref.ensures.value ∙ ap (λ (p : PlanValue). p.registers) c.plan.view_is) in
      omega (arith, few, same)
      );
}

pub stops_of-requires : goal.stops_of-requires
stops_of-requires c =
    let chain = c.deref-2.ensures.value ∙ (c.in_ok-links.ensures ∙ ap (links_from 0) (c.deref.ensures.value ∙ ap (λ (p : PlanValue). p.registers) c.plan.view_is)) in
    subst (AreOnNets (length (driven c.args.netlist.now))) (sym chain) (on_nets c.args.netlist.now c.args.plan.now c.nets-nets.ensures.netlist c.requires.before)

pub sources_of-requires-clause-few : goal.sources_of-requires-clause-few
sources_of-requires-clause-few c =
    let chain = c.deref-3.ensures.value ∙ (c.in_ok-links.ensures ∙ ap (links_from 0) (c.deref.ensures.value ∙ ap (λ (p : PlanValue). p.registers) c.plan.view_is)) in
    let few = few_links c.args.netlist.now c.args.plan.now c.requires.before in
    let same = ap length chain in
    omega (arith, few, same)

pub sources_of-requires-clause-within : goal.sources_of-requires-clause-within
sources_of-requires-clause-within c =
    let chain = c.deref-3.ensures.value ∙ (c.in_ok-links.ensures ∙ ap (links_from 0) (c.deref.ensures.value ∙ ap (λ (p : PlanValue). p.registers) c.plan.view_is)) in
    subst (AreOnNets c.nets-nets.result) (sym chain) (subst (λ k. AreOnNets k (links_from 0 c.args.plan.now.registers)) (sym c.nets-nets.ensures.count) (on_nets c.args.netlist.now c.args.plan.now c.nets-nets.ensures.netlist c.requires.before))

pub sources_of-requires-clause-one : goal.sources_of-requires-clause-one
sources_of-requires-clause-one c =
    let chain = c.deref-3.ensures.value ∙ (c.in_ok-links.ensures ∙ ap (links_from 0) (c.deref.ensures.value ∙ ap (λ (p : PlanValue). p.registers) c.plan.view_is)) in
    subst HaveOneSource (sym chain) (sources_once c.args.netlist.now c.args.plan.now c.requires.before)

pub returns : goal.returns
returns c =
    let chain = c.in_ok-links.ensures ∙ ap (links_from 0) (c.deref.ensures.value ∙ ap (λ (p : PlanValue). p.registers) c.plan.view_is) in
    record {
      netlist = c.nets-nets.ensures.netlist;
      few = (let count = c.nets-nets.ensures.count in let fits = c.nets-nets.type_inv in omega (arith, count, fits));
      chain = chain;
      stops_long = c.in_ok-stops.ensures.long;
      stops_are = stops_same c.args.netlist.now c.args.plan.now c.in_ok-stops.stops.items c.deref-2.result.now (c.deref-2.ensures.value ∙ chain) c.in_ok-stops.ensures.each;
      sources_long = c.in_ok-sources.ensures.long ∙ c.nets-nets.ensures.count;
      sources_are = subst (λ (ls : List Link). AreSources ls c.in_ok-sources.sources.items) c.deref-3.ensures.value c.in_ok-sources.ensures.each;
    }
