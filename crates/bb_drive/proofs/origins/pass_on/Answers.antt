use Rattle.std.proofs.Common.{◌∙◌, ◌++◌, sym, ap}
use Rattle.bb_drive.specs.Origins.{entry_at, newly_labelled, labelled}
use Rattle.bb_drive.proofs.LabelLaws.{passed_on, nothing_passed}
use Rattle.bb_drive.proofs.origins.pass_on.Goals as goal

pub returns-in_default-clause-labels : goal.returns-in_default-clause-labels
returns-in_default-clause-labels c = λ w are newest older before. nothing_passed w c.args.labels.now c.args.waiting.now.items c.args.bit c.in_default.is before

pub returns-clause-labels : goal.returns-clause-labels
returns-clause-labels c = λ w are newest older before.
    let labels = c.args.labels.now in
    let b = c.args.bit in
    let i = c.in-Some.origin in
    let todo = c.args.waiting.now.items in
    let one = c.label.new.labels in
    let first = c.in_ok-label.ensures.labels ∙ ap (λ ns. labelled labels (entry_at ns b) i) (sym newest) in
    let second = c.in_ok-label-2.ensures.labels ∙ ap (λ os. labelled one (entry_at os b) i) (sym older) in
    let wait = c.in_ok-label.ensures.waiting ∙ ap (λ ns. todo ++ newly_labelled labels (entry_at ns b)) (sym newest) in
    let all =
    c.in_ok-label-2.ensures.waiting
    ∙ (ap (λ ws. ws ++ newly_labelled one (entry_at c.args.older.now b)) wait ∙ ap (λ os. (todo ++ newly_labelled labels (entry_at w.newest b)) ++ newly_labelled one (entry_at os b)) (sym older)) in
    passed_on w labels one c.label-2.new.labels todo c.label-2.new.waiting.items b i are before c.in-Some.is first second all
