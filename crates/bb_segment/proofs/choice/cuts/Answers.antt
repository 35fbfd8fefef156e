use Rattle.std.proofs.Common.{◌<◌, ◌^◌, ◌∙◌, ℕ, List, subst, sym, []}
use Rattle.std.specs.List.Sorted.{IsPermutation}
use Rattle.bb_base.specs.Net.{Gate}
use Rattle.bb_base.specs.Levels.{AreGates}
use Rattle.bb_base.specs.Order.{IsOrder}
use Rattle.bb_base.proofs.GateLemmas.{gates_fit}
use Rattle.bb_segment.proofs.ShortLemmas.{short_supports}
use Rattle.bb_segment.specs.Cutting.{IsCutting}
use Rattle.bb_segment.proofs.PlaceLemmas.{fit_of}
use Rattle.bb_segment.proofs.StepLemmas.{cuts_are}
use Rattle.bb_segment.proofs.DrivenLemmas.{cuts_driven}
use Rattle.bb_segment.proofs.choice.cuts.Goals as goal

pub check_widths-requires : goal.check_widths-requires
check_widths-requires c = record { gates = fit_of c.args.netlist.now c.gates-gates.result.now c.nets-nets.result c.gates-gates.ensures.netlist c.gates-gates.ensures.value c.nets-nets.ensures.count c.nets-nets.type_inv }

pub readers_of-requires-clause-gates : goal.readers_of-requires-clause-gates
readers_of-requires-clause-gates c = fit_of c.args.netlist.now c.gates-gates.result.now c.nets-nets.result c.gates-gates.ensures.netlist c.gates-gates.ensures.value c.nets-nets.ensures.count c.nets-nets.type_inv

pub first_state-requires : goal.first_state-requires
first_state-requires c = fit_of c.args.netlist.now c.gates-gates.result.now c.nets-nets.result c.gates-gates.ensures.netlist c.gates-gates.ensures.value c.nets-nets.ensures.count c.nets-nets.type_inv

pub run-requires-clause-gates : goal.run-requires-clause-gates
run-requires-clause-gates c =
    subst (λ k. AreGates k c.gates-gates.result.now) (sym c.in_ok-state.ensures.long)
    (fit_of c.args.netlist.now c.gates-gates.result.now c.nets-nets.result c.gates-gates.ensures.netlist c.gates-gates.ensures.value c.nets-nets.ensures.count c.nets-nets.type_inv)

pub run-requires-clause-cutting : goal.run-requires-clause-cutting
run-requires-clause-cutting c =
    c.in_ok-state.ensures.cutting c.gates-2.result.now c.args.width (subst (IsOrder c.gates-gates.result.now) (sym c.gates-2.ensures) (subst (λ (gs : List (Gate ℕ)). IsOrder gs c.args.order.now) (sym c.gates-gates.ensures.value) c.requires.order))

pub returns-clause-cuts : goal.returns-clause-cuts
returns-clause-cuts c =
    let fit = gates_fit c.args.netlist.now c.gates-gates.ensures.netlist (subst (λ k. k < 2 ^ 32) c.nets-nets.ensures.count c.nets-nets.type_inv) in
    let long = c.in_ok-run.ensures.long ∙ c.in_ok-state.ensures.long ∙ c.nets-nets.ensures.count in
    let run = subst (λ (gs : List (Gate ℕ)). IsCutting gs c.gates-2.result.now c.args.width c.run.new.state.stops.items c.run.new.state.table.items [] c.run.new.state.turns.items) c.gates-gates.ensures.value c.in_ok-run.ensures.cutting in
    let cutting = subst (λ (o : List ℕ). IsCutting c.args.netlist.now.gates o c.args.width c.run.new.state.stops.items c.run.new.state.table.items [] c.run.new.state.turns.items) c.gates-2.ensures run in
    cuts_are c.args.netlist.now.gates c.args.order.now c.args.width c.run.new.state.stops.items c.run.new.state.table.items c.run.new.state.turns.items c.in_ok-ascending_nets.field-0.items
    (subst (λ k. AreGates k c.args.netlist.now.gates) (sym long) fit) c.requires.order cutting
    (subst (λ (ts : List ℕ). IsPermutation ts c.in_ok-ascending_nets.field-0.items) c.deref_mut.ensures.value c.in_ok-ascending_nets.ensures.moved) c.in_ok-ascending_nets.ensures.sorted

pub returns-clause-driven : goal.returns-clause-driven
returns-clause-driven c = cuts_driven c.args.netlist.now.gates c.args.order.now c.args.width c.in_ok-ascending_nets.field-0.items (returns-clause-cuts c)

pub returns-clause-short : goal.returns-clause-short
returns-clause-short c = λ g leaves h are. short_supports c.args.netlist.now.gates c.args.order.now c.args.width c.in_ok-ascending_nets.field-0.items g leaves (returns-clause-cuts c) h are
