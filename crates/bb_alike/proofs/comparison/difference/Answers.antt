use Rattle.std.proofs.Common.{arith, ◌≡◌, ◌+◌, inl, inr, refl, sym, ap, subst, ◌∙◌}
use Rattle.std.proofs.lemmas.Bool.{OnTrue_at, OnFalse_at}
use Rattle.std.proofs.lemmas.Option.{slice_get_within}
use Rattle.bb_alike.specs.Found.{AreNetsAt}
use Rattle.bb_alike.proofs.ListLemmas.{none_of}
use Rattle.bb_alike.proofs.AlikeLemmas.{one_more, none_more}
use Rattle.bb_alike.proofs.comparison.difference.Goals as goal

pub overflow_add-result : goal.overflow_add-result
overflow_add-result c =
    let first = c.in-Some.ensures.first c.in-Some.net refl in
    let less = slice_get_within c.args.woven.now.names c.in-Some.net first.item first.stands in
    omega (arith, less, c.net_count-count.ensures.count, c.net_count-count.ensures.few)

pub returns-in-Some-clause-some : goal.returns-in-Some-clause-some
returns-in-Some-clause-some c = λ place e.
    let is : c.in-Some.net + 1 ≡ place = cc e in
    inr (inl (c.has_front.ensures.0 c.if-not-has_front.false, (c.in-Some.net, sym is, c.in-Some.ensures.first c.in-Some.net refl)))

pub returns-then-has_more-clause-some : goal.returns-then-has_more-clause-some
returns-then-has_more-clause-some c = λ place e.
    let w = c.args.woven.now in
    let b = c.args.written.now in
    let is : c.net_count-count.result + 1 ≡ place = cc e in
    let more = OnTrue_at c.if-has_more.true c.has_more.ensures.some in
    let table = subst (AreNetsAt b w) (sym c.deref-2.ensures.value) c.in_ok-back.ensures in
    inr (inr (sym is ∙ ap (λ n. n + 1) c.net_count-count.ensures.count, c.has_front.ensures.0 c.if-not-has_front.false, c.first_unlike.ensures.none (none_of c.first_unlike.result c.in_default.not-Some), (more.0, one_more w b c.deref-2.result.now more.0 table more.1)))

pub returns-clause-none : goal.returns-clause-none
returns-clause-none c = λ e.
    let w = c.args.woven.now in
    let b = c.args.written.now in
    let table = subst (AreNetsAt b w) (sym c.deref-2.ensures.value) c.in_ok-back.ensures in
    record {
      front = c.has_front.ensures.0 c.if-not-has_front.false;
      nets = c.first_unlike.ensures.none (none_of c.first_unlike.result c.in_default.not-Some);
      none_more = none_more w b c.deref-2.result.now table (OnFalse_at c.if-has_more.false c.has_more.ensures.none);
    }
