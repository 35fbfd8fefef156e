use Rattle.std.proofs.Common.{arith, ◌≡◌, ◌∙◌, ◌+◌, ◌∷◌, ◌++◌, suc, ap, sym, subst, map, drop, length}
use Rattle.bb_make.specs.Files.{signed_session, signed_sessions}
use Rattle.bb_make.proofs.FileLemmas.{sessions_next, sessions_done}
use Rattle.bb_make.proofs.signed.signed_sessions.Goals as goal

pub signed_session-requires : goal.signed_session-requires
signed_session-requires c =
    let next = sessions_next (λ list. list.items) c.args.sessions.now c.args.values.now c.sessions.place c.index-sessions-place.result c.index-values-place.result c.sessions-test.true c.index-sessions-place.is c.index-values-place.is c.requires in
    ap length c.deref-in-sessions.ensures.value ∙ next.0 ∙ ap length (sym (c.deref.ensures.value ∙ c.session.view_is))

pub sessions-preserved : goal.sessions-preserved
sessions-preserved c =
    let sessions = c.args.sessions.now in
    let values = map (λ list. list.items) c.args.values.now in
    let next = sessions_next (λ list. list.items) c.args.sessions.now c.args.values.now c.sessions.place c.index-sessions-place.result c.index-values-place.result c.sessions-test.true c.index-sessions-place.is c.index-values-place.is c.requires in
    let one : suc c.sessions.place ≡ c.sessions.place + 1 = omega arith in
    let signed : c.in_ok-signed_session.field-0.items ≡ signed_session c.index-sessions-place.result c.index-values-place.result.items =
    c.in_ok-signed_session.ensures ∙ ap (λ rs. signed_session rs c.deref-in-sessions.result.now) (c.deref.ensures.value ∙ c.session.view_is) ∙ ap (signed_session c.index-sessions-place.result) c.deref-in-sessions.ensures.value in
    subst (λ n. map (λ list. list.items) c.push.new.self.items ++ signed_sessions (drop n sessions) (drop n values) ≡ signed_sessions sessions values) one
    (sessions_done (λ list. list.items) c.sessions.lists.items c.push.new.self.items c.in_ok-signed_session.field-0 (signed_sessions (drop c.sessions.place sessions) (drop c.sessions.place values))
    (signed_sessions (drop (suc c.sessions.place) sessions) (drop (suc c.sessions.place) values)) (signed_sessions sessions values) c.in_ok-push.ensures.items c.sessions.invariant
    (next.1 ∙ ap (λ x. x ∷ signed_sessions (drop (suc c.sessions.place) sessions) (drop (suc c.sessions.place) values)) (sym signed)))
