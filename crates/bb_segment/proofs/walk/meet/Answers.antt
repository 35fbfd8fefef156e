use Rattle.std.proofs.Common.{sym, subst, true, ◌+◌, ap, ◌∙◌, slice_set}
use Rattle.bb_segment.specs.Walks.{is_marked_net, IsMet}
use Rattle.bb_segment.proofs.WalkLemmas.{end_within, met_more, has_met}
use Rattle.bb_segment.proofs.walk.meet.Goals as goal

pub bounds-met-end : goal.bounds-met-end
bounds-met-end c =
    let none = ap (is_marked_net c.args.marks.now) (sym c.net.view_is) ∙ c.if-marks-place.false in
    end_within c.args.marks.now c.args.met.now c.args.end c.args.net c.requires.met c.requires.within none

pub returns-clause-met : goal.returns-clause-met
returns-clause-met c =
    let none = ap (is_marked_net c.args.marks.now) (sym c.net.view_is) ∙ c.if-marks-place.false in
    subst (λ k. IsMet (slice_set c.args.marks.now k true) (slice_set c.args.met.now c.args.end c.args.net) (c.args.end + 1)) (sym c.net.view_is)
    (met_more c.args.marks.now c.args.met.now c.args.end c.args.net c.requires.met c.requires.within none)

pub returns-clause-has : goal.returns-clause-has
returns-clause-has c =
    let none = ap (is_marked_net c.args.marks.now) (sym c.net.view_is) ∙ c.if-marks-place.false in
    has_met c.args.met.now c.args.end c.args.net (end_within c.args.marks.now c.args.met.now c.args.end c.args.net c.requires.met c.requires.within none)
