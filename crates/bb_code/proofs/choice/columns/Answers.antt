use Rattle.std.proofs.Common.{◌≡◌, ◌<◌, length, map, ap, sym, ◌∙◌, subst, arith}
use Rattle.std.specs.List.{AllByRecursion}
use Rattle.bb_code.specs.Segments.{listing}
use Rattle.bb_code.specs.Listings.{at_places}
use Rattle.bb_code.specs.Columns.{AreAllColumns, IsStuckSource}
use Rattle.bb_code.proofs.OneChoice.{columns_more, stuck_here, stuck_once, none_past_stuck, segments_independent}
use Rattle.bb_code.proofs.Bound.{stuck_bound}
use Rattle.bb_code.proofs.Turning.{places_of}
use Rattle.bb_code.proofs.choice.columns.Goals as goal

pub next_column-requires-clause-within : goal.next_column-requires-clause-within
next_column-requires-clause-within c =
    let here = places_of (λ segment. segment.items) (λ places. places.items) c.args.segments.now c.in_ok-listings.listings.items c.args.sources c.loop-source.source c.index.result.now
    c.loop-source-test.true c.index.ensures c.in_ok-listings.ensures in
    subst (AllByRecursion (λ place. place < length c.args.segments.now)) (sym c.deref.ensures.value) here.0

pub next_column-requires-clause-listed : goal.next_column-requires-clause-listed
next_column-requires-clause-listed c =
    let here = places_of (λ segment. segment.items) (λ places. places.items) c.args.segments.now c.in_ok-listings.listings.items c.args.sources c.loop-source.source c.index.result.now
    c.loop-source-test.true c.index.ensures c.in_ok-listings.ensures in
    let count = sym c.loop-source.invariant.one_each ∙ ap length (sym c.deref-in-loop-source.ensures.value) in
    ap (at_places (map (λ segment. segment.items) c.args.segments.now)) c.deref.ensures.value ∙ here.1 ∙ ap (listing (map (λ segment. segment.items) c.args.segments.now)) count

pub returns-in-None-clause-stuck : goal.returns-in-None-clause-stuck
returns-in-None-clause-stuck c = λ source e.
    let segments = map (λ segment. segment.items) c.args.segments.now in
    let stuck = stuck_here c.args.degree segments c.loop-source.source c.loop-source.columns.items c.deref-in-loop-source.result.now c.in_ok-column.field-0 c.loop-source.invariant c.deref-in-loop-source.ensures.value c.in_ok-column.ensures c.in-None.is in
    let same : c.loop-source.source ≡ source = cc in
    (subst (λ s. s < c.args.sources) same c.loop-source-test.true, subst (IsStuckSource c.args.degree segments) same stuck)

pub returns-in-None-clause-only : goal.returns-in-None-clause-only
returns-in-None-clause-only c = λ source lt other no_memory.
    let segments = map (λ segment. segment.items) c.args.segments.now in
    let stuck = stuck_here c.args.degree segments c.loop-source.source c.loop-source.columns.items c.deref-in-loop-source.result.now c.in_ok-column.field-0 c.loop-source.invariant c.deref-in-loop-source.ensures.value c.in_ok-column.ensures c.in-None.is in
    let same : c.loop-source.source ≡ source = stuck_once c.args.degree segments c.loop-source.source source stuck other in
    cc

pub returns-in-None-clause-bound : goal.returns-in-None-clause-bound
returns-in-None-clause-bound c = λ source listed size e within.
    let segments = map (λ segment. segment.items) c.args.segments.now in
    let stuck = stuck_here c.args.degree segments c.loop-source.source c.loop-source.columns.items c.deref-in-loop-source.result.now c.in_ok-column.field-0 c.loop-source.invariant c.deref-in-loop-source.ensures.value c.in_ok-column.ensures c.in-None.is in
    stuck_bound c.args.degree c.loop-source.source listed size segments c.requires.least stuck within

pub loop-source-preserved : goal.loop-source-preserved
loop-source-preserved c =
    let segments = map (λ segment. segment.items) c.args.segments.now in
    columns_more c.args.degree segments c.loop-source.source c.loop-source.columns.items c.deref-in-loop-source.result.now c.push.new.self.items c.in_ok-column.field-0 c.in-Some.column
    c.loop-source.invariant c.deref-in-loop-source.ensures.value c.in_ok-column.ensures c.in-Some.is c.in_ok-push-in-Some.ensures.items

pub returns-clause-independent : goal.returns-clause-independent
returns-clause-independent c =
    let segments = map (λ segment. segment.items) c.args.segments.now in
    let all : c.loop-source.source ≡ c.args.sources = (let le = c.loop-source-test.false in let ge = c.loop-source.auto.source-end in omega (arith, le, ge)) in
    segments_independent c.args.degree c.args.sources segments c.loop-source.columns.items c.requires.segments
    (subst (λ n. AreAllColumns c.args.degree segments n c.loop-source.columns.items) all c.loop-source.invariant)

pub returns-clause-only : goal.returns-clause-only
returns-clause-only c = λ source lt stuck no_memory.
    let segments = map (λ segment. segment.items) c.args.segments.now in
    let past = none_past_stuck c.args.degree segments c.loop-source.columns.items source c.loop-source.invariant.chosen stuck in
    let long = c.loop-source.invariant.one_each in
    let le = c.loop-source-test.false in
    absurd (omega (arith, past, long, le, lt))
