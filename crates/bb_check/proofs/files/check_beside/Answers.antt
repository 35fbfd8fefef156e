use Rattle.std.proofs.Common.{Vec, Global, List, map, ◌++◌, codes, sym, subst}
use Rattle.std.proofs.lemmas.Result.{err_from_is_err_and}
use Rattle.bb_forms.specs.declared.signature.Signature.{Signature}
use Rattle.bb_audit.specs.Audited.{Audited, audited}
use Rattle.bb_check.specs.Passed.{IsSignedBy}
use Rattle.bb_check.specs.Told.{Tells}
use Rattle.bb_check.proofs.FileLemmas.{stops_with, on_ok_both, schedule_refused, signatures_refused, certificate_refused, files_are, check_refused}
use Rattle.bb_check.proofs.files.check_beside.Goals as goal

pub returns-in_err-plan-clause-refused : goal.returns-in_err-plan-clause-refused
returns-in_err-plan-clause-refused g c = λ refusal e input is_input is_netlist.
    let p = err_from_is_err_and c.from_residual.result c.from_residual.ensures.1 in
    let stops = c.in_err-plan.ensures.refused refusal (stops_with c.from_residual.result c.in_err-plan.field-0.0 p.0 refusal p.1 p.2 e) in
    schedule_refused (g.S.Store.holds c.args.store.now) input c.args.prefix.now refusal c.args.original.now c.args.written.now is_input is_netlist stops

pub returns-in_err-signatures-clause-refused : goal.returns-in_err-signatures-clause-refused
returns-in_err-signatures-clause-refused g c = λ refusal e input is_input is_netlist.
    let p = err_from_is_err_and c.from_residual-in_err-signatures.result c.from_residual-in_err-signatures.ensures.1 in
    let stops = c.in_err-signatures.ensures.refused refusal (stops_with c.from_residual-in_err-signatures.result c.in_err-signatures.field-0.0 p.0 refusal p.1 p.2 e) in
    signatures_refused (g.S.Store.holds c.args.store.now) input c.args.prefix.now refusal c.args.original.now c.args.written.now is_input is_netlist (g.S.Store.holds c.plan_in.new.store)
    c.in_ok-plan.ensures.contents c.in_ok-plan.plan c.in_ok-plan.ensures.plan stops

pub returns-in_err-certificate-clause-refused : goal.returns-in_err-certificate-clause-refused
returns-in_err-certificate-clause-refused g c = λ refusal e input is_input is_netlist.
    let p = err_from_is_err_and c.from_residual-in_err-certificate.result c.from_residual-in_err-certificate.ensures.1 in
    let stops = c.in_err-certificate.ensures.refused refusal (stops_with c.from_residual-in_err-certificate.result c.in_err-certificate.field-0.0 p.0 refusal p.1 p.2 e) in
    certificate_refused (g.S.Store.holds c.args.store.now) input c.args.prefix.now refusal c.args.original.now c.args.written.now is_input is_netlist (g.S.Store.holds c.plan_in.new.store)
    (g.S.Store.holds c.signatures_in.new.store) c.in_ok-plan.ensures.contents c.in_ok-signatures.ensures.contents c.in_ok-plan.plan c.in_ok-plan.ensures.plan
    (map (λ (s : Vec Signature Global). s.items) c.in_ok-signatures.signatures.items) c.in_ok-signatures.ensures.signatures stops

pub returns-clause-passes : goal.returns-clause-passes
returns-clause-passes g c =
    let f : Audited =
    audited c.args.original.now c.args.written.now c.in_ok-plan.plan (map (λ (s : Vec Signature Global). s.items) c.deref.result.now) c.in_ok-certificate.certificate in
    let signed : Tells (g.S.Store.holds c.plan_in.new.store) (c.args.prefix.now ++ codes ".sig") (IsSignedBy f.signatures) =
    subst (λ (ss : List (Vec Signature Global)). Tells (g.S.Store.holds c.plan_in.new.store) (c.args.prefix.now ++ codes ".sig") (IsSignedBy (map (λ (s : Vec Signature Global). s.items) ss)))
    (sym c.deref.ensures.value) c.in_ok-signatures.ensures.signatures in
    on_ok_both c.judge.result
    (λ meets good input is_input is_netlist. (
      f,
      files_are (g.S.Store.holds c.args.store.now) (g.S.Store.holds c.plan_in.new.store) (g.S.Store.holds c.signatures_in.new.store) input c.args.prefix.now f
          c.in_ok-plan.ensures.contents c.in_ok-signatures.ensures.contents is_input is_netlist c.in_ok-plan.ensures.plan signed c.in_ok-certificate.ensures.certificate,
      meets,
      good,
    ))
    c.judge.ensures.meets c.judge.ensures.good

pub returns-clause-refused : goal.returns-clause-refused
returns-clause-refused g c = λ refusal e input is_input is_netlist.
    let f : Audited =
    audited c.args.original.now c.args.written.now c.in_ok-plan.plan (map (λ (s : Vec Signature Global). s.items) c.deref.result.now) c.in_ok-certificate.certificate in
    let signed : Tells (g.S.Store.holds c.plan_in.new.store) (c.args.prefix.now ++ codes ".sig") (IsSignedBy f.signatures) =
    subst (λ (ss : List (Vec Signature Global)). Tells (g.S.Store.holds c.plan_in.new.store) (c.args.prefix.now ++ codes ".sig") (IsSignedBy (map (λ (s : Vec Signature Global). s.items) ss)))
    (sym c.deref.ensures.value) c.in_ok-signatures.ensures.signatures in
    check_refused (g.S.Store.holds c.args.store.now) input c.args.prefix.now f
    (files_are (g.S.Store.holds c.args.store.now) (g.S.Store.holds c.plan_in.new.store) (g.S.Store.holds c.signatures_in.new.store) input c.args.prefix.now f
    c.in_ok-plan.ensures.contents c.in_ok-signatures.ensures.contents is_input is_netlist c.in_ok-plan.ensures.plan signed
    c.in_ok-certificate.ensures.certificate)
    refusal (c.judge.ensures.refused refusal e)
