use Rattle.std.proofs.Common.{arith, ℕ, List, [], ◌∷◌, ◌∙◌, sym, ap, map}
use Rattle.std.proofs.lemmas.List.{take_all}
use Rattle.bb_base.proofs.Lists.{length_map}
use Rattle.bb_reg.specs.Chosen.{seen_cells}
use Rattle.bb_reg.specs.Fitting.{ends_each, ends_of_all}
use Rattle.bb_reg.proofs.SeenLemmas.{ends_more, length_seen}
use Rattle.bb_reg.proofs.registers.each_ends.Goals as goal

pub cells-preserved : goal.cells-preserved
cells-preserved c =
    let cell = c.index-cells-number.result in
    let is = c.in_ok-ends_one.ensures ∙ ap (λ (ls : List ℕ). ends_of_all (record { cell = cell; leaves = ls } ∷ [])) c.deref.ensures.0 in
    c.in_ok-push.ensures.items
    ∙ ends_more (λ k. k.items) c.args.cells.now c.args.leaves.now c.cells.items.items c.cells.number cell c.index-leaves-number.result c.in_ok-ends_one.field-0 c.requires c.cells-test.true c.cells.invariant
    c.index-cells-number.is c.index-leaves-number.is is

pub returns : goal.returns
returns c =
    let leaves = map (λ k. k.items) c.args.leaves.now in
    let long = length_seen c.args.cells.now leaves (c.requires ∙ sym (length_map (λ k. k.items) c.args.leaves.now)) in
    c.cells.invariant ∙ ap ends_each (take_all c.cells.number (seen_cells c.args.cells.now leaves) (omega (arith, long, c.cells-test.false)))
