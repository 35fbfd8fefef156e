use Rattle.std.proofs.Common.{◌≡◌, ◌++◌, map, filter, take}
use Rattle.bb_terms.specs.Kinds.{is_source}
use Rattle.bb_choose.proofs.sources.add_sources.Given as goal

abbrev pub invariant-cells : goal.invariant-cells
invariant-cells l = l.nets.items ≡ l.initial.nets.items ++ map (λ c. c.net) (filter (λ c. is_source c.kind) (take l.cell-index l.cells))
