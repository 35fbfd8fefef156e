use Rattle.std.proofs.Common.{◌≡◌, ◌∙◌, ℕ, List, Vec, Global, map, sym, ap, subst}
use Rattle.bb_terms.specs.Plan.{PlanValue}
use Rattle.bb_terms.specs.Signatures.{IsSigned, AreSignatures}
use Rattle.bb_audit.proofs.ListedLemmas.{all_zipped}
use Rattle.bb_audit.proofs.sessions.first_unsigned.Goals as goal

pub returns-clause-first : goal.returns-clause-first
returns-clause-first c = λ place e.
    let a = c.args.netlist.now in
    let p = c.args.valid.now.plan in
    let numbers = map (λ (list : Vec ℕ Global). list.items) c.in_ok-values.values.items in
    let z = all_zipped (IsSigned a p) p.sessions numbers c.in_ok-values.ensures.signatures in
    let sessions : c.deref.result.now ≡ p.sessions = c.deref.ensures.value ∙ ap (λ (q : PlanValue). q.sessions) c.plan.view_is ∙ ap (λ (q : PlanValue). q.sessions) c.plan-plan.ensures in (
      z.0,
      record { registers = z.1; values = subst (AreSignatures a p) (sym z.2) c.in_ok-values.ensures.signatures },
      c.first_apart.ensures.first place z.0 e (z.1 ∙ sym sessions) (z.2 ∙ ap (λ (vs : List (Vec ℕ Global)). map (λ (list : Vec ℕ Global). list.items) vs) (sym c.deref-2.ensures.value)),
    )
