use Rattle.std.proofs.Common.{◌≡◌, ℕ, Vec, Global, Err, map, ap, subst}
use Rattle.bb_base.specs.Net.{Netlist}
use Rattle.bb_terms.specs.declared.fault.PlanFault.TheVariants.{Rule}
use Rattle.bb_plan.specs.Answered.{IsAnsweredFault}
use Rattle.bb_forms.specs.declared.signature.Signature.{Signature}
use Rattle.bb_audit.specs.declared.fault.AuditFault.TheVariants.{Refused}
use Rattle.bb_audit.specs.Audited.{audited}
use Rattle.bb_audit.proofs.JudgeLemmas.{plan_fault}
use Rattle.bb_audit.proofs.judge.audit.Goals as goal

pub returns-in-Err-clause-refused : goal.returns-in-Err-clause-refused
returns-in-Err-clause-refused c = λ rule place e.
    let same : c.of_plan.result ≡ Refused rule place = cc e in
    let fault : c.in-Err.fault ≡ Rule rule place = c.of_plan.ensures.rule rule place same in
    let answered = c.in-Err.ensures.rule rule place (ap Err fault) in
    plan_fault (audited c.args.original.now c.args.written.now c.args.plan (map (λ (s : Vec Signature Global). s.items) c.args.signatures.now) c.args.certificate.now) rule place (subst (λ (n : Netlist ℕ). IsAnsweredFault n c.args.plan rule place) c.netlist.ensures.value answered)
