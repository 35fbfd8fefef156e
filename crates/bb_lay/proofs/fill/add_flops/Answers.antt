use Rattle.std.proofs.Common.{◌≡◌, ◌∙◌, ap, refl, length, Some, slice_get}
use Rattle.std.proofs.lemmas.Option.{slice_get_read}
use Rattle.bb_base.specs.Net.{Flop}
use Rattle.bb_base.specs.Named.{Named}
use Rattle.bb_base.specs.Building.{with_flop}
use Rattle.bb_terms.specs.declared.wire.Wire.{Wire}
use Rattle.bb_terms.specs.Numbering.{net_at}
use Rattle.bb_lay.proofs.FlopLemmas.{flops_step}
use Rattle.bb_lay.proofs.fill.add_flops.Goals as goal

pub rows-preserved : goal.rows-preserved
rows-preserved c =
    let fn = c.args.builder.now in
    let b = c.rows.builder in
    let kept = c.args.kept.now in
    let rows = c.args.rows.now in
    let i = c.rows.row-index in
    let row : Flop Wire = c.row-item.result in
    let at : slice_get rows i ≡ Some row = slice_get_read rows (length rows) i row refl c.rows-test.true c.row-item.is in
    let so_far = c.rows.invariant in
    let q_wire : c.row.inside.q ≡ row.q = ap (λ (k : Flop Wire). k.q) c.row.view_is in
    let d_wire : c.row.inside.d ≡ row.d = ap (λ (k : Flop Wire). k.d) c.row.view_is in
    let q_is : c.in_ok-q.q ≡ net_at fn kept row.q = c.in_ok-q.ensures.net ∙ (λ j. net_at (so_far j) kept (q_wire j)) in
    let d_is : c.in_ok-d.d ≡ net_at fn kept row.d = c.in_ok-d.ensures.net ∙ ap (λ (k : Named). net_at k kept c.row.inside.d) c.in_ok-q.ensures.same ∙ (λ j. net_at (so_far j) kept (d_wire j)) in
    let builder : c.net_of-in-rows.new.builder ≡ b = c.in_ok-d.ensures.same ∙ c.in_ok-q.ensures.same in
    flops_step fn b c.flop.new.self (net_at fn kept) rows i c.in_ok-q.q c.in_ok-d.d row at so_far q_is d_is (c.in_ok-flop.ensures.ok ∙ ap (λ (k : Named). with_flop k c.in_ok-q.q c.in_ok-d.d) builder)
