use Rattle.std.proofs.Common.{◌≡◌, ◌++◌, [], List, map, ap, ◌∙◌, append_assoc}
use Rattle.bb_base.proofs.Lists.{map_twice}
use Rattle.bb_terms.specs.declared.plan.Cell.{Cell}
use Rattle.bb_terms.specs.declared.kind.Kind.TheVariants.{State, Watch, Cut, Output}
use Rattle.bb_reg.specs.Draft.{bare_cell, those}
use Rattle.bb_reg.proofs.drafting.observers_of.Goals as goal

joined : (s w c o a b d e : List Cell) → a ≡ [] ++ s → b ≡ a ++ w → d ≡ b ++ c → e ≡ d ++ o → e ≡ s ++ (w ++ (c ++ o))
joined s w c o a b d e first bs ds es = es ∙ ap (λ k. k ++ o) (ds ∙ ap (λ k. k ++ c) (bs ∙ ap (λ k. k ++ w) first)) ∙ append_assoc (s ++ w) c o ∙ append_assoc s w (c ++ o)

pub returns : goal.returns
returns c =
    let a = c.deref.ensures.value ∙ c.in_ok-states.ensures in
    let b = c.deref-2.ensures.value ∙ c.in_ok-watched.ensures in
    let state : map (bare_cell State) c.deref.result.now ≡ map (λ f. bare_cell State f.q) (those c.args.others.now c.args.flops.now) = ap (map (bare_cell State)) a ∙ map_twice (bare_cell State) (λ f. f.q) (those c.args.others.now c.args.flops.now) in
    let watch : map (bare_cell Watch) c.deref-2.result.now ≡ map (λ f. bare_cell Watch f.q) (those c.args.reading.now c.args.flops.now) = ap (map (bare_cell Watch)) b ∙ map_twice (bare_cell Watch) (λ f. f.q) (those c.args.reading.now c.args.flops.now) in
    joined (map (λ f. bare_cell State f.q) (those c.args.others.now c.args.flops.now)) (map (λ f. bare_cell Watch f.q) (those c.args.reading.now c.args.flops.now)) (map (bare_cell Cut) c.args.cuts.now) (map (bare_cell Output) c.args.outputs.now)
    c.add_cells.new.cells.items c.add_cells-2.new.cells.items c.add_cells-3.new.cells.items c.add_cells-4.new.cells.items
    (c.in_ok-add_cells.ensures ∙ (λ k. c.new-observers.ensures.items k ++ state k))
    (c.in_ok-add_cells-2.ensures ∙ ap (λ k. c.add_cells.new.cells.items ++ k) watch)
    c.in_ok-add_cells-3.ensures c.in_ok-add_cells-4.ensures
