use Rattle.std.proofs.Common.{arith, ◌≡◌, ℕ, List, Bool, sym, ap, subst}
use Rattle.bb_terms.specs.Support.{stop_at}
use Rattle.bb_terms.specs.Plan.{PlanValue}
use Rattle.bb_terms.specs.Lines.{is_stop}
use Rattle.bb_plan.proofs.StartLemmas.{leaves_are, not_narrow}
use Rattle.bb_plan.proofs.lines.leaves_of.Goals as goal

pub returns-then-len-plan-clause-wide : goal.returns-then-len-plan-clause-wide
returns-then-len-plan-clause-wide c = λ _.
    let stops = subst (λ (xs : List Bool). (net : ℕ) → stop_at xs net ≡ is_stop c.args.netlist.now c.args.plan.now net) (sym c.deref.ensures.value) c.requires.layout.stops_are in
    let are = leaves_are c.args.netlist.now c.args.plan.now c.args.cell c.deref.result.now c.start_of-start.result c.in-Ok.leaves.items stops c.start_of-start.ensures.begins c.in-Ok.ensures.leaves in
    let width = ap (λ (p : PlanValue). p.width) c.plan.view_is in
    not_narrow c.args.netlist.now c.requires.layout.netlist c.args.plan.now c.args.cell c.in-Ok.leaves.items c.requires.observer are (omega (arith, width, c.if-len-plan.true, c.len.ensures.value))

pub returns-else-len-plan-clause-leaves : goal.returns-else-len-plan-clause-leaves
returns-else-len-plan-clause-leaves c =
    let stops = subst (λ (xs : List Bool). (net : ℕ) → stop_at xs net ≡ is_stop c.args.netlist.now c.args.plan.now net) (sym c.deref.ensures.value) c.requires.layout.stops_are in
    leaves_are c.args.netlist.now c.args.plan.now c.args.cell c.deref.result.now c.start_of-start.result c.in-Ok.leaves.items stops c.start_of-start.ensures.begins c.in-Ok.ensures.leaves

pub returns-in-Err-clause-wide : goal.returns-in-Err-clause-wide
returns-in-Err-clause-wide c = λ _.
    let stops = subst (λ (xs : List Bool). (net : ℕ) → stop_at xs net ≡ is_stop c.args.netlist.now c.args.plan.now net) (sym c.deref.ensures.value) c.requires.layout.stops_are in
    let wide = c.in-Err.ensures.wide in
    let are = leaves_are c.args.netlist.now c.args.plan.now c.args.cell c.deref.result.now c.start_of-start.result wide.0 stops c.start_of-start.ensures.begins wide.1 in
    let many = wide.2 in
    let over = wide.3 in
    let most = c.requires.width in
    not_narrow c.args.netlist.now c.requires.layout.netlist c.args.plan.now c.args.cell wide.0 c.requires.observer are (omega (arith, many, over, most))
