use Rattle.std.proofs.Common.{take, sym, subst}
use Rattle.std.specs.List.{AllZip}
use Rattle.bb_sign.specs.Compactors.{IsLineStart}
use Rattle.bb_sign.proofs.ZipLemmas.{zip_more}
use Rattle.bb_sign.proofs.starts.starts_of.Goals as goal

pub cells-preserved : goal.cells-preserved
cells-preserved c =
    subst (AllZip (IsLineStart c.args.netlist.now) (take _ c.args.cells.now)) (sym c.in_ok-push.ensures.items)
    (zip_more (IsLineStart c.args.netlist.now) c.args.cells.now c.cells.starts.items c.cells.cell-index c.cell-item.result c.start_of.result c.cells-test.true c.cell-item.is c.cells.invariant (record { exists = c.start_of.ensures.exists; begins = c.start_of.ensures.begins }))
