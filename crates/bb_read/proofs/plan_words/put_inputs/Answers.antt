use Rattle.std.proofs.Common.{◌++◌, ◌∙◌, ap, codes, decimal}
use Rattle.bb_read.proofs.LineLemmas.{behind3}
use Rattle.bb_read.proofs.plan_words.put_inputs.Goals as goal

pub returns : goal.returns
returns c =
    c.in_ok-put_counted-2.ensures
    ∙ (ap (λ x. x ++ (codes " inputs over " ++ decimal c.args.width)) c.in_ok-put_counted.ensures
    ∙ behind3 c.args.line.now.items (codes " has ") (decimal c.args.inputs) (codes " inputs over " ++ decimal c.args.width))
