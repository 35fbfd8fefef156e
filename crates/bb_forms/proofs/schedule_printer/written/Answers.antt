use Rattle.std.proofs.Common.{◌≡◌, ◌++◌, map, ap, ◌∙◌}
use Rattle.std.specs.List.{flat_map}
use Rattle.bb_spell.specs.Canonical.{with_feed}
use Rattle.bb_forms.specs.ScheduleText.{register_lines, session_line}
use Rattle.bb_forms.proofs.Printed.{plan_written}
use Rattle.bb_forms.proofs.schedule_printer.written.Goals as goal

pub returns : goal.returns
returns c =
    let registers : c.deref.result.now ≡ c.args.plan.now.registers = c.deref.ensures.value ∙ ap (λ p. p.registers) c.plan.view_is in
    let sessions : c.deref-2.result.now ≡ c.args.plan.now.sessions = c.deref-2.ensures.value ∙ ap (λ p. p.sessions) c.plan.view_is in
    plan_written c.args.plan.now c.new-text.result.items c.write_frame.new.text.items c.write_registers.new.text.items c.write_sessions.new.text.items c.write_number_line.new.text.items c.extend_from_slice.new.self.items c.test_cycles.result c.test_cycles.ensures c.new-text.ensures.items c.in_ok-write_frame.ensures
    (c.in_ok-write_registers.ensures ∙ ap (λ gs. c.write_frame.new.text.items ++ flat_map with_feed (flat_map register_lines gs)) registers) (c.in_ok-write_sessions.ensures ∙ ap (λ ss. c.write_registers.new.text.items ++ flat_map with_feed (map session_line ss)) sessions) c.in_ok-write_number_line.ensures c.in_ok-extend_from_slice.ensures.items
