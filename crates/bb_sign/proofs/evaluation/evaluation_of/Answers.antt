use Rattle.std.proofs.Common.{arith, ◌≡◌, ◌≤◌, ◌<◌, ℕ, List, Option, length, map, ap, sym, subst, ◌∙◌, All}
use Rattle.bb_base.specs.Net.{Gate, times, driven}
use Rattle.bb_eqn.proofs.Settled.{outs_below, outs_once}
use Rattle.bb_sign.specs.Evaluation.{AreNotedSources, AreOpenGates}
use Rattle.bb_sign.proofs.EvaluationLemmas.{evaluation_is}
use Rattle.bb_sign.proofs.evaluation.evaluation_of.Goals as goal

pub sources_of-requires : goal.sources_of-requires
sources_of-requires c = omega (arith, ap length c.deref.ensures.value, c.in_ok-table.ensures.few)

pub open_gates_of-requires-clause-once : goal.open_gates_of-requires-clause-once
open_gates_of-requires-clause-once c = subst (λ (gs : List (Gate ℕ)). (net : ℕ) → times net (map (λ g. g.out) gs) ≤ 1) (sym c.gates.ensures.value) (outs_once c.args.netlist.now c.gates.ensures.netlist)

pub open_gates_of-requires-clause-drives : goal.open_gates_of-requires-clause-drives
open_gates_of-requires-clause-drives c =
    let long : length (driven c.args.netlist.now) ≡ length c.deref-2.result.now = sym (ap length c.deref-2.ensures.value ∙ c.in_ok-table.ensures.columns.long) in
    subst (λ (n : ℕ). All (λ (g : Gate ℕ). g.out < n) c.gates.result.now) long
    (subst (λ (gs : List (Gate ℕ)). All (λ g. g.out < length (driven c.args.netlist.now)) gs) (sym c.gates.ensures.value) (outs_below c.args.netlist.now c.gates.ensures.netlist))

pub returns : goal.returns
returns c =
    let table = c.in_ok-table.table.items in
    let sources = subst (λ (t : List (Option ℕ)). AreNotedSources t c.in_ok-sources.sources.nets.items c.in_ok-sources.sources.columns.items) c.deref.ensures.value c.in_ok-sources.ensures in
    let open_gates = subst (λ (t : List (Option ℕ)). AreOpenGates c.args.netlist.now.gates t c.in_ok-gates.gates.items) c.deref-2.ensures.value
    (subst (λ (gs : List (Gate ℕ)). AreOpenGates gs c.deref-2.result.now c.in_ok-gates.gates.items) c.gates.ensures.value c.in_ok-gates.ensures) in
    evaluation_is c.args.netlist.now c.args.plan.now table c.gates.ensures.netlist c.in_ok-table.ensures.columns c.in_ok-sources.sources.nets.items c.in_ok-sources.sources.columns.items c.in_ok-gates.gates.items sources open_gates
