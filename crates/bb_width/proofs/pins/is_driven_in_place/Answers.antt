use Rattle.std.proofs.Common.{drop, Some}
use Rattle.bb_scope.specs.Cells.{is_right_out}
use Rattle.bb_scope.specs.Kinds.{kind_value, texts}
use Rattle.bb_scope.proofs.CellLaws.{no_more}
use Rattle.bb_width.proofs.pins.is_driven_in_place.Goals as goal

pub returns-in_default : goal.returns-in_default
returns-in_default c =
    no_more (is_right_out (kind_value c.args.kind.now)) (λ e. Some e) (texts (drop c.loop-index.index c.args.kind.now.places.now)) c.args.terms.now c.loop-index.index _
    c.in_default.ensures.lookup.3 c.loop-index.invariant
