use Rattle.std.proofs.Common.{arith, ◌≡◌, List, ℕ, sym, ap, ◌∙◌, take, subst, get_or, ◌+◌, ◌++◌, ◌∷◌, []}
use Rattle.std.proofs.lemmas.List.{take_more}
use Rattle.bb_segment.specs.Cutting.{table_entry, AreGathered}
use Rattle.bb_segment.proofs.WalkLemmas.{item_in}
use Rattle.bb_segment.proofs.TableLemmas.{gathered_more, entry_read}
use Rattle.bb_segment.proofs.cutting.gather.Goals as goal

pub bounds-table-net-inside : goal.bounds-table-net-inside
bounds-table-net-inside c =
    let inside = c.requires c.net-item.result (item_in c.args.nets.now c.nets.net-index c.net-item.result c.nets-test.true c.net-item.is) in
    omega (arith, inside, c.net.view_is)

pub nets-preserved : goal.nets-preserved
nets-preserved c =
    let inside = c.requires c.net-item.result (item_in c.args.nets.now c.nets.net-index c.net-item.result c.nets-test.true c.net-item.is) in
    let list = take_more c.args.nets.now c.nets.net-index c.net-item.result c.nets-test.true ∙ ap (λ (x : ℕ). take c.nets.net-index c.args.nets.now ++ x ∷ []) (sym c.net-item.is) in
    let entry : c.as_slice.result.now ≡ table_entry c.args.table.now c.net-item.result =
    c.as_slice.ensures ∙ c.index-table-net.is ∙ ap (λ k. get_or c.args.table.now k c.index-table-net.result) c.net.view_is ∙ entry_read c.args.table.now c.net-item.result c.index-table-net.result inside in
    let h = gathered_more c.args.table.now (take c.nets.net-index c.args.nets.now) c.nets.numbers.items c.as_slice.result.now c.net-item.result c.nets.invariant entry in
    subst (AreGathered c.args.table.now (take (c.nets.net-index + 1) c.args.nets.now)) (sym c.in_ok-extend_from_slice.ensures.items)
    (subst (λ (ns : List ℕ). AreGathered c.args.table.now ns (c.nets.numbers.items ++ c.as_slice.result.now)) (sym list) h)
