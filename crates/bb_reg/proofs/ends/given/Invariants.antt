use Rattle.std.proofs.Common.{◌≡◌, take}
use Rattle.std.specs.List.{flat_map}
use Rattle.bb_reg.specs.Chosen.{given_by}
use Rattle.bb_reg.proofs.ends.given.Given as goal

abbrev pub invariant-cells : goal.invariant-cells
invariant-cells l = l.gives.items ≡ flat_map given_by (take l.cell-index l.cells)
