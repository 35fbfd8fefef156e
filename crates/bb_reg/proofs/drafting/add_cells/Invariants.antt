use Rattle.std.proofs.Common.{◌≡◌, ◌++◌, map, take}
use Rattle.bb_reg.specs.Draft.{bare_cell}
use Rattle.bb_reg.proofs.drafting.add_cells.Given as goal

abbrev pub invariant-nets : goal.invariant-nets
invariant-nets l = l.cells.items ≡ l.fn.cells.items ++ map (bare_cell l.kind) (take l.net-index l.nets)
