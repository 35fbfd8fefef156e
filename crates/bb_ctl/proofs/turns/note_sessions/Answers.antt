use Rattle.std.proofs.Common.{◌≡◌, ◌≤◌, ◌∙◌, List, ℕ, refl, ap, subst, length, Some, slice_get}
use Rattle.std.proofs.lemmas.Option.{slice_get_read}
use Rattle.bb_ctl.proofs.TurnLemmas.{AreNoted, turns_none, turns_below, turns_more, turns_all}
use Rattle.bb_ctl.proofs.turns.note_sessions.Goals as goal

pub note_session-requires : goal.note_session-requires
note_session-requires c = turns_below c.args.plan.now c.sessions.s c.sessions.turns c.sessions.invariant

pub sessions-init : goal.sessions-init
sessions-init c = turns_none c.args.plan.now c.args.turns.now c.requires.long c.requires.none

pub sessions-preserved : goal.sessions-preserved
sessions-preserved c =
    let same : c.deref-session-items.result.now ≡ c.args.plan.now.sessions = c.deref-session-items.ensures.value ∙ ap (λ v. v.sessions) c.plan.view_is in
    let s = c.sessions.s in
    let session : List ℕ = c.session-item.result in
    let at : slice_get c.deref-session-items.result.now s ≡ Some session = slice_get_read c.deref-session-items.result.now (length c.deref-session-items.result.now) s session refl c.sessions-test.true c.session-item.is in
    let listed : c.deref.result.now ≡ session = c.deref.ensures.value ∙ c.session.view_is in
    let added : AreNoted s c.deref.result.now c.sessions.turns c.note_session.new.turns = record { long = c.in_ok-note_session.ensures.long; each = c.in_ok-note_session.ensures.each } in
    turns_more c.args.plan.now s session c.sessions.turns c.note_session.new.turns (subst (λ ss. slice_get ss s ≡ Some session) same at) c.sessions.invariant
    (subst (λ ns. AreNoted s ns c.sessions.turns c.note_session.new.turns) listed added)

pub returns : goal.returns
returns c =
    let same : c.deref-session-items.result.now ≡ c.args.plan.now.sessions = c.deref-session-items.ensures.value ∙ ap (λ v. v.sessions) c.plan.view_is in
    turns_all c.args.plan.now c.sessions.s c.sessions.turns (subst (λ ss. length ss ≤ c.sessions.s) same c.sessions-test.false) c.sessions.invariant
