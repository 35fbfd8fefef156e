use Rattle.std.proofs.Common.{arith, ◌≡◌, ℕ, List, ◌∙◌, subst, length}
use Rattle.std.proofs.lemmas.Grind.{common_steps}
use Rattle.bb_segment.specs.Cutting.{IsSetOf}
use Rattle.bb_segment.proofs.SetLemmas.{counts_distinct, few_below}
use Rattle.bb_segment.proofs.sets.count_different.Goals as goal

pub returns-clause-count : goal.returns-clause-count
returns-clause-count c =
    let set = subst (λ (ns : List ℕ). IsSetOf ns c.into_set.result.items) c.in_ok-numbers.ensures c.into_set.ensures in
    let count : c.len.result ≡ length c.into_set.result.items = grind (arith, common_steps, c.len.ensures) in
    count ∙ counts_distinct c.into_set.result.items c.args.nets.now set.ascending (λ n. (set.each n).0) (λ n. (set.each n).1)

pub returns-clause-few : goal.returns-clause-few
returns-clause-few c = λ most low.
    let set = subst (λ (ns : List ℕ). IsSetOf ns c.into_set.result.items) c.in_ok-numbers.ensures c.into_set.ensures in
    let count : c.len.result ≡ length c.into_set.result.items = grind (arith, common_steps, c.len.ensures) in
    let few = few_below c.into_set.result.items most set.ascending (λ n h. low n ((set.each n).0 h)) in
    omega (arith, count, few)
