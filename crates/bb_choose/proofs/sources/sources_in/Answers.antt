use Rattle.std.proofs.Common.{arith, ◌≡◌, ◌<◌, ℕ, List, length, map, sym, ap, subst, ◌∙◌, slice_index}
use Rattle.std.specs.List.{AllByRecursion}
use Rattle.arrayvec.specs.ArrayVec.{ArrayVec}
use Rattle.bb_reg.specs.Chosen.{GroupedValue}
use Rattle.bb_choose.specs.Arranged.{source_nets}
use Rattle.bb_choose.specs.Coding.{AreNumbers}
use Rattle.bb_choose.proofs.CodeLemmas.{sources_few, leaves_within, sources_are}
use Rattle.bb_choose.proofs.sources.sources_in.Goals as goal

pub numbers_of-requires-clause-few : goal.numbers_of-requires-clause-few
numbers_of-requires-clause-few c =
    let nets : length c.deref-2.result.now ≡ length (source_nets c.args.grouped.now.registers) = ap length (c.deref-2.ensures.value ∙ (c.in_ok-sources.ensures ∙ ap source_nets (c.deref.ensures.value ∙ ap (λ (g : GroupedValue). g.registers) c.grouped.view_is))) in
    let few = sources_few c.args.grouped.now.registers in
    let cells = c.requires.cells_few in
    omega (arith, nets, few, cells)

pub segments_on-requires : goal.segments_on-requires
segments_on-requires c =
    let line : ArrayVec ℕ → List ℕ = λ v. v.items in
    let long : length c.deref-3.result.now ≡ c.args.nets = ap length c.deref-3.ensures.value ∙ c.in_ok-numbers.ensures.long in
    let lines : map line c.deref-4.result.now ≡ c.args.grouped.now.leaves = ap (map line) c.deref-4.ensures.value ∙ ap (λ (g : GroupedValue). g.leaves) c.grouped.view_is in
    subst (λ k. AllByRecursion (AllByRecursion (λ net. net < k)) (map line c.deref-4.result.now)) (sym long)
    (subst (AllByRecursion (AllByRecursion (λ net. net < c.args.nets))) (sym lines) (leaves_within (source_nets c.args.grouped.now.registers) c.args.nets c.args.grouped.now.leaves c.requires.leaves c.requires.within))

pub returns : goal.returns
returns c =
    let line : ArrayVec ℕ → List ℕ = λ v. v.items in
    let lines : map line c.deref-4.result.now ≡ c.args.grouped.now.leaves = ap (map line) c.deref-4.ensures.value ∙ ap (λ (g : GroupedValue). g.leaves) c.grouped.view_is in
    let nets = c.in_ok-sources.ensures ∙ ap source_nets (c.deref.ensures.value ∙ ap (λ (g : GroupedValue). g.registers) c.grouped.view_is) in
    sources_are c.args.grouped.now c.args.nets c.in_ok-sources.sources.items c.in_ok-numbers.numbers.items _ c.requires nets c.in_ok-numbers.ensures.long
    (subst (λ ns. AreNumbers ns c.in_ok-numbers.numbers.items) c.deref-2.ensures.value c.in_ok-numbers.ensures.numbers)
    (c.in_ok-segments.ensures ∙ (λ i. map (map (slice_index (c.deref-3.ensures.value i))) (lines i)))
