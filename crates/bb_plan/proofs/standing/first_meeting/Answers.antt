use Rattle.std.proofs.Common.{◌≡◌, ◌<◌, length, take, get_or, slice_get, Some, arith, ap, sym, subst, ◌∙◌, true, false}
use Rattle.std.proofs.lemmas.Grind.{common_steps}
use Rattle.bb_terms.specs.declared.plan.Cell.{Cell}
use Rattle.bb_plan.specs.declared.table.OnNet.{OnNet}
use Rattle.bb_plan.specs.Tables.{blank, meets, on_net, IsApartIn}
use Rattle.bb_plan.proofs.FirstWrong.{item_at, wrong_here, one_more, none_wrong}
use Rattle.bb_plan.proofs.OnNets.{meeting, not_meeting, row_after}
use Rattle.bb_plan.proofs.standing.first_meeting.Goals as goal

pub returns-then-meets : goal.returns-then-meets
returns-then-meets c =
    let x = c.index-cells-place.result in
    let net_is : c.cell.inside.0.1.0.0 ≡ x.net = ap (λ (y : Cell). y.net) c.cell.view_is in
    let kind_is : c.cell.inside.0.0 ≡ x.kind = ap (λ (y : Cell). y.kind) c.cell.view_is in
    let less : c.cells.place < length c.args.cells.now = omega arith in
    let within : x.net < length c.args.table.now = subst (λ (y : Cell). y.net < length c.args.table.now) (sym c.index-cells-place.is) (c.requires.within c.cells.place x less) in
    let on : OnNet = get_or c.cells.table c.cell.inside.0.1.0.0 blank in
    let is : on ≡ on_net (take c.cells.place c.args.cells.now) x.net = ap (λ k. get_or c.cells.table k blank) net_is ∙ c.cells.invariant.each x.net within in
    let met : meets on x.kind ≡ true = ap (meets on) (sym kind_is) ∙ sym c.meets.ensures ∙ c.if-meets.true in
    wrong_here c.args.cells.now (IsApartIn c.args.cells.now) c.cells.place x c.cells.invariant.before (item_at c.args.cells.now c.cells.place x less c.index-cells-place.is) (meeting c.args.cells.now c.cells.place x on is met)

pub cells-preserved : goal.cells-preserved
cells-preserved c =
    let x = c.index-cells-place.result in
    let net_is : c.cell.inside.0.1.0.0 ≡ x.net = ap (λ (y : Cell). y.net) c.cell.view_is in
    let kind_is : c.cell.inside.0.0 ≡ x.kind = ap (λ (y : Cell). y.kind) c.cell.view_is in
    let less : c.cells.place < length c.args.cells.now = omega arith in
    let within : x.net < length c.args.table.now = subst (λ (y : Cell). y.net < length c.args.table.now) (sym c.index-cells-place.is) (c.requires.within c.cells.place x less) in
    let on : OnNet = get_or c.cells.table c.cell.inside.0.1.0.0 blank in
    let is : on ≡ on_net (take c.cells.place c.args.cells.now) x.net = ap (λ k. get_or c.cells.table k blank) net_is ∙ c.cells.invariant.each x.net within in
    let none : meets on x.kind ≡ false = ap (meets on) (sym kind_is) ∙ sym c.meets.ensures ∙ c.if-meets.false in
    let at : slice_get c.args.cells.now c.cells.place ≡ Some x = item_at c.args.cells.now c.cells.place x less c.index-cells-place.is in
    record {
      before = one_more c.args.cells.now (IsApartIn c.args.cells.now) c.cells.place x c.cells.invariant.before at (not_meeting c.args.cells.now c.cells.place x on is none);
      long = grind (arith, common_steps);
      each = λ net fits. row_after c.args.cells.now c.cells.place x c.cells.table (length c.args.table.now) c.cell.inside.0.1.0.0 c.cell.inside.0.0 c.with.result at net_is kind_is (omega arith) within c.cells.invariant.each c.with.ensures net fits;
    }

pub returns : goal.returns
returns c = none_wrong c.args.cells.now (IsApartIn c.args.cells.now) c.cells.place c.cells.invariant.before (omega arith)
