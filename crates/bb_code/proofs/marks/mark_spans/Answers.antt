use Rattle.std.proofs.Common.{map, take, sym, subst}
use Rattle.std.proofs.lemmas.List.{take_all}
use Rattle.bb_base.specs.Span.{IsInCoset}
use Rattle.bb_code.specs.Marks.{IsInside}
use Rattle.bb_code.proofs.Marking.{HasMore, span_step, read_more}
use Rattle.bb_code.proofs.marks.mark_spans.Goals as goal

pub loop-rows-preserved : goal.loop-rows-preserved
loop-rows-preserved c =
    let spans = c.args.spans.now in
    let i = c.loop-rows.rows-index in
    subst (λ ys. HasMore c.args.marks.now c.mark_coset.new.marks (IsInside ys)) (sym (read_more (λ rows. rows.items) spans i c.rows-item.result c.loop-rows-test.true c.rows-item.is))
    (span_step c.args.marks.now c.loop-rows.marks c.mark_coset.new.marks (map (λ rows. rows.items) (take i spans)) c.rows-item.result.items c.loop-rows.auto.marks
    c.loop-rows.invariant (subst (λ rows. HasMore c.loop-rows.marks c.mark_coset.new.marks (IsInCoset rows 0)) c.as_slice.ensures.value c.mark_coset.ensures))

pub returns : goal.returns
returns c =
    subst (λ xs. HasMore c.args.marks.now c.loop-rows.marks (IsInside (map (λ rows. rows.items) xs))) (take_all c.loop-rows.rows-index c.args.spans.now c.loop-rows-test.false) c.loop-rows.invariant
