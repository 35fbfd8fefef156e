use Rattle.std.proofs.Common.{◌≡◌, ◌++◌, drop, map}
use Rattle.std.specs.List.{flat_map}
use Rattle.bb_spell.specs.Canonical.{with_feed}
use Rattle.bb_forms.specs.ScheduleText.{session_line}
use Rattle.bb_forms.proofs.schedule_printer.write_sessions.Given as goal

abbrev pub invariant-sessions : goal.invariant-sessions
invariant-sessions l = l.text.items ++ flat_map with_feed (map session_line (drop l.session-index l.sessions)) ≡ l.fn.text.items ++ flat_map with_feed (map session_line l.sessions)
