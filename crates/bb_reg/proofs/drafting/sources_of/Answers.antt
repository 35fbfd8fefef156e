use Rattle.std.proofs.Common.{◌≡◌, ◌++◌, [], List, map, ap, ◌∙◌}
use Rattle.bb_base.proofs.Lists.{map_twice}
use Rattle.bb_terms.specs.declared.plan.Cell.{Cell}
use Rattle.bb_terms.specs.declared.kind.Kind.TheVariants.{Input, Split}
use Rattle.bb_reg.specs.Draft.{bare_cell, those}
use Rattle.bb_reg.proofs.drafting.sources_of.Goals as goal

joined : (i s a b : List Cell) → a ≡ [] ++ i → b ≡ a ++ s → b ≡ i ++ s
joined i s a b first bs = bs ∙ ap (λ k. k ++ s) first

pub returns : goal.returns
returns c =
    let n = c.args.netlist.now in
    let qs = c.deref.ensures.value ∙ c.in_ok-split.ensures ∙ ap (λ fs. map (λ f. f.q) (those c.args.reading.now fs)) c.flops.ensures.value in
    let split : map (bare_cell Split) c.deref.result.now ≡ map (λ f. bare_cell Split f.q) (those c.args.reading.now n.flops) = ap (map (bare_cell Split)) qs ∙ map_twice (bare_cell Split) (λ f. f.q) (those c.args.reading.now n.flops) in
    joined (map (bare_cell Input) n.inputs) (map (λ f. bare_cell Split f.q) (those c.args.reading.now n.flops)) c.add_cells.new.cells.items c.add_cells-2.new.cells.items
    (c.in_ok-add_cells.ensures ∙ (λ k. c.new-sources.ensures.items k ++ map (bare_cell Input) (c.inputs.ensures.value k)))
    (c.in_ok-add_cells-2.ensures ∙ ap (λ k. c.add_cells.new.cells.items ++ k) split)
