use Rattle.std.proofs.Common.{◌≡◌, ◌++◌, drop}
use Rattle.std.specs.List.{flat_map}
use Rattle.bb_spell.specs.Canonical.{with_feed}
use Rattle.bb_forms.specs.ScheduleText.{register_lines}
use Rattle.bb_forms.proofs.schedule_printer.write_registers.Given as goal

abbrev pub invariant-registers : goal.invariant-registers
invariant-registers l = l.text.items ++ flat_map with_feed (flat_map register_lines (drop l.register-index l.registers)) ≡ l.fn.text.items ++ flat_map with_feed (flat_map register_lines l.registers)
