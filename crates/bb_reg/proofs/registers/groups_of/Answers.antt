use Rattle.std.proofs.Common.{arith, ◌≡◌, ◌<◌, length, map, sym, ap, ◌∙◌, subst}
use Rattle.std.specs.List.{AllByRecursion}
use Rattle.bb_segment.proofs.Outcomes.{ok_then}
use Rattle.bb_reg.specs.Draft.{DraftValue}
use Rattle.bb_reg.specs.Chosen.{seen_cells}
use Rattle.bb_reg.specs.Fitting.{ends_each, groups_of}
use Rattle.bb_reg.proofs.NaturalLemmas.{groups_below, length_ends}
use Rattle.bb_reg.proofs.registers.groups_of.Goals as goal

pub fit-requires-clause-few : goal.fit-requires-clause-few
fit-requires-clause-few c =
    let d = c.args.draft.now in
    let cells = c.deref.ensures.value ∙ ap (λ (v : DraftValue). v.observers) c.draft.view_is in
    let leaves = ap (map (λ k. k.items)) c.deref-2.ensures.value ∙ ap (λ (v : DraftValue). v.leaves) c.draft.view_is in
    let items = c.deref-3.ensures.value ∙ c.in_ok-items.ensures ∙ (λ k. ends_each (seen_cells (cells k) (leaves k))) in
    omega (arith, ap length items, length_ends d.observers d.leaves c.requires.leaves, c.requires.few)

pub returns-clause-groups : goal.returns-clause-groups
returns-clause-groups c =
    let d = c.args.draft.now in
    let cells = c.deref.ensures.value ∙ ap (λ (v : DraftValue). v.observers) c.draft.view_is in
    let leaves = ap (map (λ k. k.items)) c.deref-2.ensures.value ∙ ap (λ (v : DraftValue). v.leaves) c.draft.view_is in
    let items = c.deref-3.ensures.value ∙ c.in_ok-items.ensures ∙ (λ k. ends_each (seen_cells (cells k) (leaves k))) in
    let long = ap length items ∙ length_ends d.observers d.leaves c.requires.leaves in
    ok_then (λ groups. groups.items ≡ groups_of c.deref-3.result.now c.args.most (length c.deref-3.result.now))
    (λ groups. groups.items ≡ groups_of (ends_each (seen_cells d.observers d.leaves)) c.args.most (length d.observers)) c.fit.result
    (λ groups h. h ∙ (λ k. groups_of (items k) c.args.most (long k))) c.fit.ensures

pub returns-clause-within : goal.returns-clause-within
returns-clause-within c =
    let d = c.args.draft.now in
    ok_then (λ groups. groups.items ≡ groups_of (ends_each (seen_cells d.observers d.leaves)) c.args.most (length d.observers))
    (λ groups. AllByRecursion (AllByRecursion (λ j. j < length d.observers)) groups.items) c.fit.result
    (λ groups h. subst (λ gs. AllByRecursion (AllByRecursion (λ j. j < length d.observers)) gs) (sym h) (groups_below (ends_each (seen_cells d.observers d.leaves)) c.args.most (length d.observers)))
    (returns-clause-groups c)
