use Rattle.std.proofs.Common.{◌≡◌, ◌∙◌, ap, sym, subst, arith, cond, length, Some, None}
use Rattle.bb_drive.specs.Nets.{has_bit}
use Rattle.bb_drive.specs.Origins.{entry_at, is_marked, AreSpread}
use Rattle.bb_base.proofs.Lists.{whole_written}
use Rattle.bb_drive.proofs.LabelLaws.{labels_begin, labels_end}
use Rattle.bb_drive.proofs.origins.spread_along.Goals as goal

pub returns : goal.returns
returns c = λ w are roots newest older.
    let new = c.pass_all.new.labels in
    let start = c.deref_mut.ensures.value in
    let long : length new ≡ length c.in_ok-labels.labels.items = c.pass_all.ensures.long ∙ ap length start in
    let whole = whole_written c.in_ok-labels.labels.len c.in_ok-labels.labels.items new (omega arith) long in
    let begun = labels_begin w c.deref_mut.result.now (has_bit c.in_ok-waiting.waiting.items) are
    (ap length start ∙ (c.in_ok-labels.ensures.long ∙ sym (ap length roots)))
    (λ b. ap (λ ls. entry_at ls b) start ∙ (c.in_ok-labels.ensures.each b ∙ ap (λ rs. cond (is_marked rs b) (Some b) None) (sym roots)))
    (λ b. c.in_ok-waiting.ensures.each b ∙ ap (λ rs. is_marked rs b) (sym roots)) in
    subst (AreSpread w.gates w.backs w.roots) (sym whole) (labels_end w new are (c.in_ok-pass_all.ensures.labels w are newest older begun))
