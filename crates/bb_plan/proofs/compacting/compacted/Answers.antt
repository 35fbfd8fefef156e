use Rattle.std.proofs.Common.{◌≡◌, ℕ, List, Bool, length, subst, sym, ap, ◌∙◌}
use Rattle.bb_terms.specs.Plan.{RegisterValue, PlanValue}
use Rattle.bb_plan.specs.Tables.{IsFound}
use Rattle.bb_plan.specs.Tables.{AreListed, IsListedIn}
use Rattle.bb_plan.proofs.Listings.{compacted_answer}
use Rattle.bb_plan.proofs.compacting.compacted.Goals as goal

pub returns : goal.returns
returns c = λ a.
    let p = c.args.plan.now in
    let marks = c.in_ok-listed.listed.items in
    let registers_is : c.deref-2.result.now ≡ p.registers = c.deref-2.ensures.value ∙ ap (λ (q : PlanValue). q.registers) c.plan.view_is in
    let sessions_is : c.deref.result.now ≡ p.sessions = c.deref.ensures.value ∙ ap (λ (q : PlanValue). q.sessions) c.plan.view_is in
    let count : c.len.result ≡ length p.registers = c.len.ensures ∙ sym c.deref-2.ensures.len ∙ ap length registers_is in
    let listed : AreListed (length p.registers) p.sessions marks =
    subst (λ n. AreListed n p.sessions marks) count (subst (λ (s : List (List ℕ)). AreListed c.len.result s marks) sessions_is c.in_ok-listed.ensures) in
    let found : IsFound p.registers (IsListedIn marks) c.first_unlisted.result =
    subst (λ (m : List Bool). IsFound p.registers (IsListedIn m) c.first_unlisted.result) c.deref-3.ensures.value
    (subst (λ (g : List RegisterValue). IsFound g (IsListedIn c.deref-3.result.now) c.first_unlisted.result) registers_is c.first_unlisted.ensures) in
    compacted_answer a p marks c.first_unlisted.result listed found
