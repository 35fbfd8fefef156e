use Rattle.std.proofs.Common.{arith, ◌∙◌, ℕ, List, length, map, ap, sym, subst}
use Rattle.bb_base.proofs.Lists.{length_map}
use Rattle.bb_terms.specs.Plan.{PlanValue}
use Rattle.bb_make.proofs.FileLemmas.{AreLong, signed_few}
use Rattle.bb_make.proofs.BoundLemmas.{written_long}
use Rattle.bb_make.proofs.texts.signatures_written.Goals as goal

pub signed_sessions-requires : goal.signed_sessions-requires
signed_sessions-requires c =
    let sessions = c.deref.ensures.value ∙ ap (λ (q : PlanValue). q.sessions) c.behind-valid.view_is ∙ ap (λ (q : PlanValue). q.sessions) c.plan.ensures in
    let long = written_long c.args.netlist.now c.args.valid.now.plan (map (λ list. list.items) c.in_ok-values.values.items) c.in_ok-values.ensures.signatures in
    subst (λ vs. AreLong c.deref.result.now (map (λ list. list.items) vs)) (sym c.deref-2.ensures.value) (subst (λ (ss : List (List ℕ)). AreLong ss (map (λ list. list.items) c.in_ok-values.values.items)) (sym sessions) long)

pub signature_text-requires : goal.signature_text-requires
signature_text-requires c =
    let sessions = c.deref.ensures.value ∙ ap (λ (q : PlanValue). q.sessions) c.behind-valid.view_is ∙ ap (λ (q : PlanValue). q.sessions) c.plan.ensures in
    let few = signed_few c.deref.result.now (map (λ list. list.items) c.deref-2.result.now) in
    let bound = c.requires.bounds.sessions in
    omega (arith, ap length c.deref-3.ensures.value, length_map (λ list. list.items) c.in_ok-signed.signed.items, ap length c.in_ok-signed.ensures, few, ap length sessions, bound)
