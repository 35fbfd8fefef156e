use Rattle.std.proofs.Common.{◌<◌, sym, subst, ◌∙◌}
use Rattle.std.proofs.lemmas.List.{length-map}
use Rattle.bb_code.specs.Segments.{IsSegment}
use Rattle.bb_code.proofs.Turning.{segment_fits, one_segment_more}
use Rattle.bb_code.proofs.listings.listings.Goals as goal

pub add_segment-requires : goal.add_segment-requires
add_segment-requires c =
    let many = sym (c.loop-place.invariant.one_each) ∙ length-map c.loop-place.listings.items (λ places. places.items) in
    subst (λ n. IsSegment n c.as_slice.result.now) many
    (subst (IsSegment c.args.sources) (sym c.as_slice.ensures.value)
    (segment_fits (λ segment. segment.items) c.args.segments.now c.args.sources c.loop-place.place c.index-segments-place.result c.loop-place-test.true c.index-segments-place.is c.requires))

pub loop-place-preserved : goal.loop-place-preserved
loop-place-preserved c =
    let old = c.loop-place.listings.items in
    let put = c.in_ok-add_segment.ensures.places in
    one_segment_more (λ segment. segment.items) (λ places. places.items) c.args.segments.now old c.add_segment.new.listings.items c.args.sources c.loop-place.place
    c.index-segments-place.result c.as_slice.result.now c.loop-place-test.true c.index-segments-place.is c.as_slice.ensures.value c.loop-place.invariant c.in_ok-add_segment.ensures.count
    (λ source lt. put source (subst (λ n. source < n) (length-map old (λ places. places.items)) lt))
