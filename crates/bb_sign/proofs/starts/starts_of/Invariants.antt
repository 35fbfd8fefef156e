use Rattle.std.proofs.Common.{take}
use Rattle.std.specs.List.{AllZip}
use Rattle.bb_sign.specs.Compactors.{IsLineStart}
use Rattle.bb_sign.proofs.starts.starts_of.Given as goal

abbrev pub invariant-cells : goal.invariant-cells
invariant-cells l = AllZip (IsLineStart l.netlist) (take l.cell-index l.cells) l.starts.items
