use Rattle.std.proofs.Common.{arith, ◌≡◌, ℕ, ◌≤◌, false, List, length, nat_eq, sym, subst}
use Rattle.bb_base.specs.Net.{driven}
use Rattle.bb_terms.specs.Paths.{Behind, is_free}
use Rattle.bb_terms.specs.Support.{AreLeaves}
use Rattle.bb_terms.specs.Cuts.{is_stop_with}
use Rattle.bb_base.proofs.Contained.{of_all, by_place}
use Rattle.bb_reg.specs.Draft.{AreCells}
use Rattle.std.specs.List.Sorted.{IsStrictlyIncreasing}
use Rattle.std.specs.Set.{distinct_count}
use Rattle.bb_base.specs.Net.{Gate}
use Rattle.bb_choose.specs.ChosenPlan.{AreCutsOf}
use Rattle.bb_choose.specs.Coding.{CanTakeColumns}
use Rattle.bb_choose.proofs.ReadyLemmas.{ready}
use Rattle.bb_choose.proofs.arranged.arranged.Goals as goal

pub cells-requires-clause-narrow : goal.cells-requires-clause-narrow
cells-requires-clause-narrow c = λ g leaves h are.
    let same = c.deref.ensures.value in
    let short = c.in_ok-cut.ensures.short g leaves h (subst (λ (cs : List ℕ). AreLeaves c.args.netlist.now.gates (is_stop_with c.args.netlist.now.gates cs) (Behind g) leaves) same are) in
    let most = c.requires.settings.width_most in
    omega (arith, short, most)

pub returns-clause-ready : goal.returns-clause-ready
returns-clause-ready c =
    let a = c.args.netlist.now in
    let cuts = c.in_ok-cut.cut.items in
    let ascending = c.in_ok-cut.ensures.cuts.ascending in
    let same = c.deref.ensures.value in
    let draft = c.in_ok-draft.draft in
    let most = c.args.settings.now.register in
    let are : AreCells a cuts draft = subst (λ (cs : List ℕ). AreCells a cs draft) same c.in_ok-draft.ensures.cells in
    let driven_all = c.in_ok-cut.ensures.driven in
    let cuts_are : AreCutsOf a cuts = record {
      netlist = c.requires.netlist;
      order = (c.args.order.now, c.requires.order);
      ports = c.requires.netlist.ports;
      ascending = ascending;
      driven = λ net h. of_all (λ net. is_free a.gates net ≡ false) cuts net driven_all h;
    } in
    let few = c.in_ok-draft.ensures.few (subst IsStrictlyIncreasing (sym same) ascending) in
    let nets = c.requires.few in
    subst (CanTakeColumns (length (driven a))) (sym c.in_ok-group.ensures.grouped)
    (ready a cuts draft most cuts_are are c.in_ok-draft.ensures.leaves (omega (arith, few, nets)) c.requires.settings.register_least c.requires.settings.register_most)

pub returns-clause-narrow : goal.returns-clause-narrow
returns-clause-narrow c = by_place (λ (g : Gate ℕ). distinct_count nat_eq g.ins ≤ c.args.settings.now.width) c.args.netlist.now.gates c.in_ok-cut.ensures.narrow
