use Rattle.std.proofs.Common.{◌<◌, ℕ, List, length, map, sym, ap, subst, ◌∙◌, Contains, Some}
use Rattle.std.specs.List.{AllByRecursion}
use Rattle.std.proofs.lemmas.Option.{slice_get-get_or}
use Rattle.arrayvec.specs.ArrayVec.{ArrayVec}
use Rattle.bb_base.proofs.Contained.{of_all, contains_at, contains_map}
use Rattle.bb_choose.proofs.sources.segments_on.Goals as goal

pub numbers_on-requires-clause-within : goal.numbers_on-requires-clause-within
numbers_on-requires-clause-within c =
    let line : ArrayVec ℕ → List ℕ = λ v. v.items in
    let lines = c.args.lines.now in
    let leaves = c.leaves-item.result in
    let stands : Contains lines leaves = contains_at lines c.lines.leaves-index leaves (slice_get-get_or lines c.lines.leaves-index leaves c.lines-test.true ∙ ap Some (sym c.leaves-item.is)) in
    subst (AllByRecursion (λ net. net < length c.args.numbers.now)) (sym c.deref.ensures.0)
    (of_all (AllByRecursion (λ net. net < length c.args.numbers.now)) (map line lines) (line leaves) c.requires (contains_map line lines leaves stands))
