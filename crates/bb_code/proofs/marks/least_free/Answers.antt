use Rattle.std.proofs.Common.{◌≡◌, ◌<◌, ℕ, true, false, get_or, set, drop, ap, sym, ◌∙◌, subst, map, length}
use Rattle.std.specs.Option.{MatchOption}
use Rattle.std.proofs.lemmas.List.{take_at, length-set}
use Rattle.bb_code.proofs.Marking.{least_of_marks}
use Rattle.bb_code.proofs.marks.least_free.Goals as goal

pub returns : goal.returns
returns c =
    let room = c.room_for.result in
    let items = c.in_ok-marks.marks.items in
    let marks = c.mark_spans.new.marks in
    let started = c.in_ok-marks.ensures.items_if_clones_equal (λ y e. e) in
    let written = c.deref_mut.ensures.value in
    let first = written ∙ ap (λ xs. set xs 0 true) started in
    let long = c.mark_spans.auto.marks ∙ ap length written ∙ length-set items 0 true ∙ sym c.in_ok-marks.marks.ok.0 in
    let read = c.deref.ensures.value ∙ take_at marks (drop (length marks) (set items 0 true)) c.in_ok-marks.marks.len long in
    let found = subst (λ ms. MatchOption c.first_unmarked.result ((w : ℕ) → w < length ms → get_or ms w true ≡ true)
    (λ v. (v < length ms) × (get_or ms v true ≡ false) × ((w : ℕ) → w < v → get_or ms w true ≡ true))) read c.first_unmarked.ensures in
    least_of_marks c.args.degree room (map (λ rows. rows.items) c.args.spans.now) c.deref_mut.result.now marks c.first_unmarked.result c.requires.least c.room_for.ensures first c.mark_spans.auto.marks c.mark_spans.ensures found
