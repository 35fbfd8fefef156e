use Rattle.std.proofs.Common.{arith, ◌≡◌, ◌<◌, ◌≤◌, length, map, sym, ap, ◌∙◌, subst, slice_index}
use Rattle.std.specs.List.{AllByRecursion}
use Rattle.bb_segment.proofs.Outcomes.{ok_then}
use Rattle.bb_base.proofs.Lists.{length_map}
use Rattle.bb_reg.specs.Chosen.{GroupedValue, compacting_from, scheduled_of}
use Rattle.bb_reg.specs.Fitting.{ends_of_all, groups_of}
use Rattle.bb_reg.proofs.NaturalLemmas.{groups_below}
use Rattle.bb_reg.proofs.SessionLemmas.{sessions_are, compacting_few}
use Rattle.bb_reg.proofs.scheduling.sessions.Goals as goal

pub fit-requires-clause-few : goal.fit-requires-clause-few
fit-requires-clause-few c =
    let g = c.args.grouped.now in
    let registers = c.deref.ensures.value ∙ ap (λ (v : GroupedValue). v.registers) c.grouped.view_is in
    let items = c.deref-3.ensures.value ∙ c.in_ok-compacting.ensures.items in
    omega (
      arith,
      ap length items,
      length_map (λ x. ends_of_all x.1) (compacting_from 0 c.deref.result.now (map (λ k. k.items) c.deref-2.result.now)),
      compacting_few 0 c.deref.result.now (map (λ k. k.items) c.deref-2.result.now),
      ap length registers,
      c.requires.few,
    )

pub sessions_of-requires : goal.sessions_of-requires
sessions_of-requires c =
    let pairs = compacting_from 0 c.deref.result.now (map (λ k. k.items) c.deref-2.result.now) in
    let items = c.deref-3.ensures.value ∙ c.in_ok-compacting.ensures.items in
    let numbers = c.deref-4.ensures.value ∙ c.in_ok-compacting.ensures.numbers in
    let count = ap length items ∙ length_map (λ x. ends_of_all x.1) pairs ∙ sym (ap length numbers ∙ length_map (λ x. x.0) pairs) in
    let groups = c.deref-5.ensures.value ∙ c.in_ok-groups.ensures in
    subst (λ n. AllByRecursion (AllByRecursion (λ j. j < n)) c.deref-5.result.now) count
    (subst (λ gs. AllByRecursion (AllByRecursion (λ j. j < length c.deref-3.result.now)) gs) (sym groups) (groups_below c.deref-3.result.now 4294967295 (length c.deref-3.result.now)))

pub returns : goal.returns
returns c =
    let g = c.args.grouped.now in
    let registers = c.deref.ensures.value ∙ ap (λ (v : GroupedValue). v.registers) c.grouped.view_is in
    let leaves = ap (map (λ k. k.items)) c.deref-2.ensures.value ∙ ap (λ (v : GroupedValue). v.leaves) c.grouped.view_is in
    let pairs = compacting_from 0 g.registers g.leaves in
    let are : compacting_from 0 c.deref.result.now (map (λ k. k.items) c.deref-2.result.now) ≡ pairs = (λ k. compacting_from 0 (registers k) (leaves k)) in
    let items = c.deref-3.ensures.value ∙ c.in_ok-compacting.ensures.items ∙ ap (map (λ x. ends_of_all x.1)) are in
    let numbers = c.deref-4.ensures.value ∙ c.in_ok-compacting.ensures.numbers ∙ ap (map (λ x. x.0)) are in
    let count : length c.deref-3.result.now ≡ length pairs = ap length items ∙ length_map (λ x. ends_of_all x.1) pairs in
    let few : length pairs ≤ 4294967295 = omega (arith, compacting_few 0 g.registers g.leaves, c.requires.few) in
    let groups = c.deref-5.ensures.value ∙ c.in_ok-groups.ensures ∙ ap (groups_of c.deref-3.result.now 4294967295) count in
    record {
      sessions = ok_then (λ s. s.items ≡ map (map (slice_index c.deref-4.result.now)) c.deref-5.result.now) (λ s. s.items ≡ scheduled_of g) c.sessions_of.result
          (λ s h. h ∙ ap (map (map (slice_index c.deref-4.result.now))) groups ∙ sessions_are pairs 4294967295 c.deref-4.result.now c.deref-3.result.now few numbers items) c.sessions_of.ensures;
    }
