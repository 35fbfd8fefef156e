use Rattle.std.proofs.Common.{◌≡◌, ◌∙◌, ap, arith}
use Rattle.bb_base.specs.Bits.{picked}
use Rattle.bb_terms.specs.Controller.{word_from}
use Rattle.bb_ctl.proofs.RowLemmas.{feed_is}
use Rattle.bb_ctl.proofs.controller.push_feed.Goals as goal

pub returns : goal.returns
returns c =
    let tapped : c.deref-2.result.now ≡ picked c.args.mask (word_from 0 c.args.degree) = c.deref-2.ensures.value ∙ c.in_ok-tapped.ensures ∙ ap (picked c.args.mask) (c.deref.ensures.value ∙ c.in_ok-bits.ensures) in
    feed_is c.args.rows.now.items c.push_row.new.rows.items c.push_low.new.rows.items c.push_row-2.new.rows.items c.args.mask c.args.degree c.saturating_sub.result c.deref-2.result.now c.deref-3.result.now
    c.in_ok-push_row.ensures c.in_ok-push_low.ensures c.in_ok-push_row-2.ensures tapped (omega (arith, c.saturating_sub.ensures)) (c.deref-3.ensures.value ∙ c.in_ok-low.ensures)
