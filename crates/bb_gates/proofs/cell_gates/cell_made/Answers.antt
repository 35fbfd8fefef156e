use Rattle.std.proofs.Common.{◌∙◌}
use Rattle.bb_scope.specs.Kinds.{kind_value}
use Rattle.bb_scope.proofs.UseLaws.{next_pins}
use Rattle.bb_gates.proofs.cell_gates.cell_made.Goals as goal

pub kind_made-requires-clause-next : goal.kind_made-requires-clause-next
kind_made-requires-clause-next c =
    next_pins c.args.scope.now (kind_value c.in-Some.kind) c.args.conns.now c.deref.result.now c.args.uses.now c.requires.next (c.deref.ensures.value ∙ c.in_ok-pins.ensures)
