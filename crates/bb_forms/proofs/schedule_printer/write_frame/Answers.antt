use Rattle.std.proofs.Common.{◌≡◌, ◌++◌, ap, ◌∙◌}
use Rattle.bb_spell.specs.Canonical.{with_feed}
use Rattle.bb_forms.specs.ScheduleText.{mask_line}
use Rattle.bb_forms.proofs.Printed.{frame_written}
use Rattle.bb_forms.proofs.schedule_printer.write_frame.Goals as goal

pub returns : goal.returns
returns c =
    let width : c.from.result ≡ c.args.plan.now.width = c.from.ensures ∙ ap (λ p. p.width) c.plan.view_is in
    let degree : c.from-2.result ≡ c.args.plan.now.degree = c.from-2.ensures ∙ ap (λ p. p.degree) c.plan.view_is in
    frame_written c.args.plan.now c.args.text.now.items c.extend_from_slice.new.self.items c.write_number_line.new.text.items c.write_number_line-2.new.text.items c.write_hex_line.new.text.items c.from.result c.from-2.result width degree c.in_ok-extend_from_slice.ensures.items c.in_ok-write_number_line.ensures
    c.in_ok-write_number_line-2.ensures (c.in_ok-write_hex_line.ensures ∙ ap (λ p. c.write_number_line-2.new.text.items ++ with_feed (mask_line p.mask)) c.plan.view_is)
