use Rattle.std.proofs.Common.{◌≡◌, [], drop, take}
use Rattle.bb_fault.specs.Firsts.{first_behind}
use Rattle.bb_scope.specs.Cells.{is_repeated}
use Rattle.bb_width.proofs.pins.any_repeated.Given as goal

abbrev pub invariant-loop-index : goal.invariant-loop-index
invariant-loop-index l = first_behind is_repeated (take l.index l.pins) (drop l.index l.pins) ≡ first_behind is_repeated [] l.pins
