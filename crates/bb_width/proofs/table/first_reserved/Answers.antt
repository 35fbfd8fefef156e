use Rattle.std.proofs.Common.{arith}
use Rattle.bb_base.specs.OwnNames.{is_reserved}
use Rattle.bb_width.proofs.TableLaws.{first_use}
use Rattle.bb_width.proofs.table.first_reserved.Goals as goal

pub returns : goal.returns
returns c =
    let e = first_use is_reserved c.args.module.now c.args.table.now.entries c.requires in
    grind (arith, e, c.reserved_variable.ensures, c.is_reserved.ensures, c.if-is_reserved.false)
