use Rattle.std.proofs.Common.{arith}
use Rattle.bb_width.proofs.TableLaws.{added}
use Rattle.bb_width.proofs.UsedLaws.{new_index_is}
use Rattle.bb_width.proofs.table.index_of.Goals as goal

pub returns-clause-table : goal.returns-clause-table
returns-clause-table c =
    added c.args.said.now.entries c.args.table.now.entries c.insert.new.self.entries c.args.name.now c.in_ok-copy.field-0 c.variable_said-variable.result
    (grind (arith, c.in_default.ensures.found))
    c.in_ok-copy.ensures
    (grind (arith, c.variable_said-variable.ensures, c.copied.ensures, c.get.ensures.value))
    c.in_ok-insert.ensures.entries

pub returns-clause-index : goal.returns-clause-index
returns-clause-index c =
    new_index_is c.args.table.now.entries c.args.name.now c.len-index.result c.in_default.ensures.index c.len-index.ensures.len
