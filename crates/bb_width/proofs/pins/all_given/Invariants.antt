use Rattle.std.proofs.Common.{◌≡◌, drop}
use Rattle.std.specs.List.{list_all}
use Rattle.bb_scope.specs.Cells.{is_given}
use Rattle.bb_scope.specs.Kinds.{texts}
use Rattle.bb_width.proofs.pins.all_given.Given as goal

abbrev pub invariant-loop-name : goal.invariant-loop-name
invariant-loop-name l = list_all (is_given l.pins) (texts (drop l.name-index l.names)) ≡ list_all (is_given l.pins) (texts l.names)
