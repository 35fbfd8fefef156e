use Rattle.std.proofs.Common.{◌≡◌, drop}
use Rattle.std.specs.List.{list_all}
use Rattle.bb_scope.specs.Cells.{is_known}
use Rattle.bb_scope.specs.Kinds.{kind_value}
use Rattle.bb_width.proofs.pins.all_known.Given as goal

abbrev pub invariant-loop-pin : goal.invariant-loop-pin
invariant-loop-pin l = list_all (is_known (kind_value l.kind)) (drop l.pin-index l.pins) ≡ list_all (is_known (kind_value l.kind)) l.pins
