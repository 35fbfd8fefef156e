use Rattle.std.proofs.Common.{◌≡◌, ◌<◌, length, get_or, slice_get, Some, arith, ap, sym, subst, ◌∙◌}
use Rattle.bb_terms.specs.Plan.{PlanValue}
use Rattle.bb_terms.specs.Rules.{IsSession}
use Rattle.bb_plan.specs.Tables.{MayBeSession}
use Rattle.bb_plan.proofs.FirstWrong.{item_at, none_wrong}
use Rattle.bb_plan.proofs.Listings.{too_many, one_session, one_count}
use Rattle.bb_plan.proofs.compacting.sessions.Goals as goal

pub returns-then-listed-gt-MAX_LISTED : goal.returns-then-listed-gt-MAX_LISTED
returns-then-listed-gt-MAX_LISTED c = λ a.
    let p = c.args.plan.now in
    let s = c.sessions.place in
    let x = c.session-item.result in
    let list_is : c.deref-session-items.result.now ≡ p.sessions = c.deref-session-items.ensures.value ∙ ap (λ (q : PlanValue). q.sessions) c.plan.view_is in
    let long : length c.deref-session-items.result.now ≡ length p.sessions = ap length list_is in
    let less : s < length p.sessions = omega (arith, long) in
    let at : slice_get p.sessions s ≡ Some x = item_at p.sessions s x less (c.session-item.is ∙ ap (λ l. get_or l s x) list_is) in
    let count : c.len.result ≡ length x = c.len.ensures ∙ sym c.deref.ensures.len ∙ ap length (c.deref.ensures.value ∙ c.session.view_is) in
    too_many p s x c.sessions.listed c.len.result c.sessions.invariant.before at c.sessions.invariant.count count c.if-listed-gt-MAX_LISTED.true

pub sessions-preserved : goal.sessions-preserved
sessions-preserved c =
    let p = c.args.plan.now in
    let s = c.sessions.place in
    let x = c.session-item.result in
    let list_is : c.deref-session-items.result.now ≡ p.sessions = c.deref-session-items.ensures.value ∙ ap (λ (q : PlanValue). q.sessions) c.plan.view_is in
    let long : length c.deref-session-items.result.now ≡ length p.sessions = ap length list_is in
    let less : s < length p.sessions = omega (arith, long) in
    let at : slice_get p.sessions s ≡ Some x = item_at p.sessions s x less (c.session-item.is ∙ ap (λ l. get_or l s x) list_is) in
    let compact_is : c.deref.result.now ≡ x = c.deref.ensures.value ∙ c.session.view_is in
    let count : c.len.result ≡ length x = c.len.ensures ∙ sym c.deref.ensures.len ∙ ap length compact_is in
    let may : MayBeSession p x = subst (MayBeSession p) compact_is (c.may_be_session.ensures.0 c.if-not-may_be_session.false) in
    record {
      before = one_session p s x c.sessions.listed c.len.result c.sessions.invariant.before at c.sessions.invariant.count count c.if-listed-gt-MAX_LISTED.false may;
      count = one_count p s x c.sessions.listed c.len.result at c.sessions.invariant.count count;
      few = c.if-listed-gt-MAX_LISTED.false;
    }

pub returns : goal.returns
returns c = λ a.
    let p = c.args.plan.now in
    let list_is : c.deref-session-items.result.now ≡ p.sessions = c.deref-session-items.ensures.value ∙ ap (λ (q : PlanValue). q.sessions) c.plan.view_is in
    let long : length c.deref-session-items.result.now ≡ length p.sessions = ap length list_is in
    none_wrong p.sessions (IsSession p) c.sessions.place c.sessions.invariant.before (omega (arith, long))
