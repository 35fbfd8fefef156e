use Rattle.std.proofs.Common.{◌≡◌, drop}
use Rattle.std.specs.List.{list_all}
use Rattle.bb_scope.specs.Cells.{is_right_out}
use Rattle.bb_scope.specs.Kinds.{kind_value}
use Rattle.bb_width.proofs.pins.all_right_outs.Given as goal

abbrev pub invariant-loop-pin : goal.invariant-loop-pin
invariant-loop-pin l = list_all (is_right_out (kind_value l.kind)) (drop l.pin-index l.pins) ≡ list_all (is_right_out (kind_value l.kind)) l.pins
