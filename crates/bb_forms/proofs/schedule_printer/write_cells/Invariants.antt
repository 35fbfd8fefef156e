use Rattle.std.proofs.Common.{◌≡◌, ◌++◌, drop, map}
use Rattle.std.specs.List.{flat_map}
use Rattle.bb_spell.specs.Canonical.{with_feed}
use Rattle.bb_forms.specs.ScheduleText.{cell_line}
use Rattle.bb_forms.proofs.schedule_printer.write_cells.Given as goal

abbrev pub invariant-cells : goal.invariant-cells
invariant-cells l = l.text.items ++ flat_map with_feed (map cell_line (drop l.cell-index l.cells)) ≡ l.fn.text.items ++ flat_map with_feed (map cell_line l.cells)
