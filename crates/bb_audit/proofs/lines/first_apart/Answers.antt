use Rattle.std.proofs.Common.{arith, ◌≡◌, ◌<◌, ◌≤◌, length, map, sym, subst}
use Rattle.bb_base.proofs.Lists.{length_map}
use Rattle.bb_alike.proofs.ListLemmas.{item_at, image_at, agree_more}
use Rattle.bb_audit.specs.Certified.{line_cells, segment_cells, IsFirstApart}
use Rattle.bb_audit.proofs.ApartLemmas.{apart_long, agree_fitting}
use Rattle.bb_audit.proofs.lines.first_apart.Goals as goal

pub segments-preserved : goal.segments-preserved
segments-preserved c =
    let lines = c.args.lines.now in
    let segments = c.args.segments.now in
    let low : c.segments.place < length segments = omega arith in
    let at = item_at lines c.segments.place c.in-Some.line.now c.in-Some.ensures.lookup.3.0 c.in-Some.ensures.lookup.1 in
    let there = image_at segment_cells segments c.segments.place c.index-segments-place.result (item_at segments c.segments.place c.index-segments-place.result low c.index-segments-place.is) in
    agree_more line_cells lines (map segment_cells segments) c.segments.place c.in-Some.line.now (segment_cells c.index-segments-place.result) c.segments.invariant at there (c.is_line_of.ensures.0 c.if-not-is_line_of.false)

pub returns-then-lines-segments-clause-first : goal.returns-then-lines-segments-clause-first
returns-then-lines-segments-clause-first c = λ place e.
    let lines = c.args.lines.now in
    let segments = c.args.segments.now in
    let same : length segments ≡ place = cc e in
    let long = length_map segment_cells segments in
    let past : length segments ≤ c.segments.place = omega arith in
    let more : length segments < length lines = omega arith in
    subst (IsFirstApart (map line_cells lines) (map segment_cells segments)) same
    (apart_long line_cells lines (map segment_cells segments) (length segments) (λ i less. c.segments.invariant i (omega (arith, less, past))) (sym long) (omega (arith, long, more)))

pub returns-clause-none : goal.returns-clause-none
returns-clause-none c = λ e.
    let lines = c.args.lines.now in
    let segments = c.args.segments.now in
    let long = length_map segment_cells segments in
    let past : length segments ≤ c.segments.place = omega arith in
    let fits : length lines ≤ length segments = omega arith in
    agree_fitting line_cells lines (map segment_cells segments) c.segments.place c.segments.invariant (omega (arith, long, past)) (omega (arith, long, fits))
