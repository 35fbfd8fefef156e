use Rattle.std.proofs.Common.{refl, length}
use Rattle.bb_scope.specs.Names.{steps_names}
use Rattle.bb_scope.proofs.UseLaws.{next_right}
use Rattle.bb_width.proofs.parts.assign.Goals as goal

pub value-requires : goal.value-requires
value-requires c = next_right c.args.scope.now c.args.left.now (steps_names c.args.right.now) (length c.args.left.now) c.args.uses.now c.behind.result.now c.requires refl c.behind.ensures
