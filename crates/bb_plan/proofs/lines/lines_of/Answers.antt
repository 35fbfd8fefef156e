use Rattle.std.proofs.Common.{arith, ◌≡◌, ◌≤◌, ℕ, List, length, ◌+◌, true, false, take, Vec, Global, sym, ap, subst, ◌∙◌}
use Rattle.std.specs.List.{AllZip}
use Rattle.std.proofs.lemmas.Grind.{common_steps}
use Rattle.std.proofs.lemmas.List.{take_all}
use Rattle.bb_base.specs.Places.{IsFirstWrong}
use Rattle.bb_terms.specs.declared.plan.Cell.{Cell}
use Rattle.bb_terms.specs.Plan.{PlanValue, chain}
use Rattle.bb_terms.specs.Rules.{IsNarrow}
use Rattle.bb_plan.specs.declared.chain.Link.{Link}
use Rattle.bb_plan.specs.Chain.{links_from}
use Rattle.bb_plan.specs.Layout.{LineValue, IsObservedLine}
use Rattle.bb_plan.proofs.ChainLemmas.{item_read, at_chain, chain_long}
use Rattle.bb_plan.proofs.LayoutLemmas.{few_links}
use Rattle.bb_plan.proofs.ObserverLemmas.{observers_from, lines_more, lines_same}
use Rattle.bb_plan.proofs.FirstWrong.{one_more, none_wrong}
use Rattle.bb_plan.proofs.PlaceLemmas.{none_of}
use Rattle.bb_plan.proofs.lines.lines_of.Goals as goal
use Rattle.bb_plan.proofs.lines.lines_of.Goals.{then-is_observer+in-Some+in_ok-push, else-is_observer}

pub overflow_cast-place : goal.overflow_cast-place
overflow_cast-place c =
    let few = few_links c.args.netlist.now c.args.plan.now c.requires.before in
    let same = ap length (c.deref-link-items.ensures.value ∙ c.requires.layout.chain) in
    let less = c.links-test.true in
    grind (arith, common_steps, few, same, less)

pub line_of-requires-clause-stands : goal.line_of-requires-clause-stands
line_of-requires-clause-stands c = at_chain c.args.plan.now c.links.number c.link-item.result
    (item_read c.deref-link-items.result.now _ c.links.number c.link-item.result (c.deref-link-items.ensures.value ∙ c.requires.layout.chain) c.links-test.true c.link-item.is)

pub returns-in_default-clause-wide : goal.returns-in_default-clause-wide
returns-in_default-clause-wide c = λ number place e.
    let at = at_chain c.args.plan.now c.links.number c.link-item.result
    (item_read c.deref-link-items.result.now _ c.links.number c.link-item.result (c.deref-link-items.ensures.value ∙ c.requires.layout.chain) c.links-test.true c.link-item.is) in
    let eleven : number ≡ 11 = cc e in
    let there : c.links.number ≡ place = cc e in
    let wrong = c.line_of.ensures.wide (none_of c.line_of.result c.in_default.not-Some) in
    let first : IsFirstWrong (chain c.args.plan.now) (λ i d. IsNarrow c.args.netlist.now c.args.plan.now d) c.links.number = record { item = c.link-item.result.cell; stands = at; wrong = wrong; before = c.links.invariant.narrow } in
    (eleven, subst (IsFirstWrong (chain c.args.plan.now) (λ i d. IsNarrow c.args.netlist.now c.args.plan.now d)) there first)

pub links-preserved : goal.links-preserved
links-preserved c =
    let at = at_chain c.args.plan.now c.links.number c.link-item.result
    (item_read c.deref-link-items.result.now _ c.links.number c.link-item.result (c.deref-link-items.ensures.value ∙ c.requires.layout.chain) c.links-test.true c.link-item.is) in
    elim c.if-is_observer.branch [
      | then-is_observer+in-Some+in_ok-push w ↦ record {
        walk = w.walk-is ∙ (w.line_of.ensures.walk ∙ c.links.invariant.walk);
        lines = subst (λ (ls : List LineValue). AllZip (IsObservedLine c.args.netlist.now c.args.plan.now) (observers_from 0 (take (c.links.number + 1) (chain c.args.plan.now))) ls)
            (sym (ap (λ (v : Vec LineValue Global). v.items) w.lines-is ∙ w.in_ok-push.ensures.items))
            (lines_more (IsObservedLine c.args.netlist.now c.args.plan.now) (chain c.args.plan.now) c.links.number c.link-item.result.cell c.links.lines.items w.in-Some.line at (sym w.if-is_observer.ensures) c.links.invariant.lines w.in-Some.ensures.line);
        narrow = one_more (chain c.args.plan.now) (λ i d. IsNarrow c.args.netlist.now c.args.plan.now d) c.links.number c.link-item.result.cell c.links.invariant.narrow at w.in-Some.ensures.narrow;
      }
      | else-is_observer w ↦ record {
        walk = w.walk-is ∙ c.links.invariant.walk;
        lines = subst (λ (ls : List LineValue). AllZip (IsObservedLine c.args.netlist.now c.args.plan.now) (observers_from 0 (take (c.links.number + 1) (chain c.args.plan.now))) ls)
            (sym (ap (λ (v : Vec LineValue Global). v.items) w.lines-is))
            (lines_same (IsObservedLine c.args.netlist.now c.args.plan.now) (chain c.args.plan.now) c.links.number c.link-item.result.cell c.links.lines.items at (sym w.if-is_observer.ensures) c.links.invariant.lines);
        narrow = one_more (chain c.args.plan.now) (λ i d. IsNarrow c.args.netlist.now c.args.plan.now d) c.links.number c.link-item.result.cell c.links.invariant.narrow at
            (λ observer. let never : false ≡ true = w.if-is_observer.ensures ∙ observer in absurd (cc never));
      }
    ]

-- the loop has come to the end of the chain
ended : (n : ℕ) (xs links : List Link) (p : PlanValue) → length xs ≤ n → xs ≡ links → links ≡ links_from 0 p.registers → length (chain p) ≤ n
ended n xs links p past same is = let all = ap length (same ∙ is) in let long = chain_long p in omega (arith, past, all, long)

pub returns-clause-lines : goal.returns-clause-lines
returns-clause-lines c =
    let past = ended c.links.number c.deref-link-items.result.now c.args.layout.now.links.items c.args.plan.now c.links-test.false c.deref-link-items.ensures.value c.requires.layout.chain in
    subst (λ (cs : List Cell). AllZip (IsObservedLine c.args.netlist.now c.args.plan.now) (observers_from 0 cs) c.links.lines.items) (take_all c.links.number (chain c.args.plan.now) past) c.links.invariant.lines

pub returns-clause-narrow : goal.returns-clause-narrow
returns-clause-narrow c =
    let past = ended c.links.number c.deref-link-items.result.now c.args.layout.now.links.items c.args.plan.now c.links-test.false c.deref-link-items.ensures.value c.requires.layout.chain in
    none_wrong (chain c.args.plan.now) (λ i d. IsNarrow c.args.netlist.now c.args.plan.now d) c.links.number c.links.invariant.narrow past
