use Rattle.std.proofs.Common.{arith, ◌≡◌, ◌+◌, ◌*◌, ◌≤◌, ◌∙◌, List, ℕ, Bool, length, map, sym, ap, subst, Contains, not}
use Rattle.std.specs.Prelude.{filter}
use Rattle.std.specs.List.{AllZip}
use Rattle.bb_base.specs.Net.{Flop, driven}
use Rattle.bb_terms.specs.Paths.{AtNet}
use Rattle.bb_terms.specs.Support.{AreLeaves, stop_at}
use Rattle.bb_segment.proofs.Outcomes.{ok_then}
use Rattle.bb_reg.specs.Draft.{AreCells}
use Rattle.bb_reg.specs.LineTables.{AreNarrow}
use Rattle.bb_reg.proofs.NarrowLemmas.{narrow_all, all_within, output_within, outputs_driven}
use Rattle.bb_reg.proofs.CellLemmas.{leaves_long, few_cells}
use Rattle.bb_reg.proofs.drafting.cells.Goals as goal

pub open_nets-requires : goal.open_nets-requires
open_nets-requires c = λ net h.
    let a = c.args.netlist.now in
    let low = output_within a net c.outputs.ensures.netlist (subst (λ ks. Contains ks net) c.outputs.ensures.value h) in
    omega (arith, low, ap length c.deref.ensures.value, c.in_ok-stops.ensures.long)

pub lines_of-requires-clause-narrow : goal.lines_of-requires-clause-narrow
lines_of-requires-clause-narrow c =
    let a = c.args.netlist.now in
    let all : AreNarrow a.gates (stop_at c.in_ok-stops.stops.items) = narrow_all a c.args.cuts.now c.in_ok-stops.stops.items c.in_ok-stops.ensures.netlist c.in_ok-stops.ensures.few c.in_ok-stops.ensures.stops c.requires.narrow in
    subst (λ (ss : List Bool). AreNarrow a.gates (stop_at ss)) (sym c.deref-2.ensures.value) all

pub lines_of-requires-clause-cuts_within : goal.lines_of-requires-clause-cuts_within
lines_of-requires-clause-cuts_within c = all_within c.args.netlist.now c.args.cuts.now c.in_ok-stops.ensures.netlist c.requires.driven

pub lines_of-requires-clause-outputs_within : goal.lines_of-requires-clause-outputs_within
lines_of-requires-clause-outputs_within c =
    let a = c.args.netlist.now in
    let are : c.deref-3.result.now ≡ filter (λ net. not (stop_at c.in_ok-stops.stops.items net)) a.outputs =
    c.deref-3.ensures.value ∙ c.in_ok-outputs.ensures ∙ (λ k. filter (λ net. not (stop_at (c.deref.ensures.value k) net)) (c.outputs.ensures.value k)) in
    all_within a c.deref-3.result.now c.in_ok-stops.ensures.netlist (outputs_driven a c.args.cuts.now c.in_ok-stops.stops.items c.deref-3.result.now c.in_ok-stops.ensures.stops are)

pub lines_of-requires-clause-outputs_driven : goal.lines_of-requires-clause-outputs_driven
lines_of-requires-clause-outputs_driven c =
    let a = c.args.netlist.now in
    let are : c.deref-3.result.now ≡ filter (λ net. not (stop_at c.in_ok-stops.stops.items net)) a.outputs =
    c.deref-3.ensures.value ∙ c.in_ok-outputs.ensures ∙ (λ k. filter (λ net. not (stop_at (c.deref.ensures.value k) net)) (c.outputs.ensures.value k)) in
    outputs_driven a c.args.cuts.now c.in_ok-stops.stops.items c.deref-3.result.now c.in_ok-stops.ensures.stops are

pub draft_of-requires-clause-flop_lines : goal.draft_of-requires-clause-flop_lines
draft_of-requires-clause-flop_lines c =
    let a = c.args.netlist.now in
    let same = c.deref-2.ensures.value ∙ sym c.deref-4.ensures.value in
    subst (λ (ss : List Bool). AllZip (λ (f : Flop ℕ) leaves. AreLeaves a.gates (stop_at ss) (AtNet f.d) leaves) a.flops (map (λ l. l.items) c.in_ok-lines.lines.flops.items)) same c.in_ok-lines.ensures.flops

pub returns-clause-leaves : goal.returns-clause-leaves
returns-clause-leaves c =
    let a = c.args.netlist.now in
    let cuts = c.args.cuts.now in
    ok_then (AreCells a cuts) (λ draft. length draft.leaves ≡ length draft.observers) c.draft_of.result (leaves_long a cuts) c.draft_of.ensures

pub returns-clause-few : goal.returns-clause-few
returns-clause-few c = λ up.
    let a = c.args.netlist.now in
    let cuts = c.args.cuts.now in
    ok_then (AreCells a cuts) (λ draft. length draft.sources + length draft.observers ≤ 2 * length (driven a)) c.draft_of.result (λ draft are. few_cells a cuts draft c.in_ok-stops.ensures.netlist up c.requires.driven are) c.draft_of.ensures
