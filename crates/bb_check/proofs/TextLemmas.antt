-- Texts have one end: they pass, or have one refusal.
use Rattle.std.proofs.Common.{arith, ◌≡◌, ℕ, ◌≤◌, Bool, true, false, List, length, min, Ok, Err, refl, sym, ap, ◌∙◌, subst, ◌∷◌}
use Rattle.std.specs.Prelude.{Result}
use Rattle.bb_edge.specs.Told.{Told}
use Rattle.bb_words.specs.Commands.{files_of}
use Rattle.bb_base.specs.Named.{Named, IsNamed}
use Rattle.bb_meaning.specs.Denotes.{ElaboratesTo}
use Rattle.bb_terms.specs.Plan.{PlanValue}
use Rattle.bb_forms.specs.declared.signature.Signature.{Signature}
use Rattle.bb_forms.specs.Forms.{IsFirstUnformed}
use Rattle.bb_forms.specs.ScheduleText.{IsFormedPlan, AreScheduleLines, schedule_text}
use Rattle.bb_forms.specs.SignatureText.{AreFormedSignatures, AreSignatureLines, signature_text}
use Rattle.bb_forms.specs.CertificateText.{CertificateValue, IsFormedCertificate, AreCertificateLines, certificate_text}
use Rattle.bb_audit.specs.Audited.{Audited, audited}
use Rattle.bb_audit.specs.Passing.{AuditPasses}
use Rattle.bb_audit.specs.Faults.{IsAuditFault}
use Rattle.bb_read.specs.declared.refusal.TextRefusal.{TextRefusal}
use Rattle.bb_read.specs.declared.refusal.FormRefusal.{FormRefusal}
use Rattle.bb_read.specs.declared.refusal.FormRefusal.TheVariants.{TooLong, Line}
use Rattle.bb_read.specs.declared.refusal.Refusal.{Refusal}
use Rattle.bb_read.specs.declared.refusal.Refusal.TheVariants.{Input, Plan, Netlist, Schedule, Signatures, Certificate, Check}
use Rattle.bb_read.specs.Texts.{file_limit, output_limit, IsTextRefused, ComesTo}
use Rattle.bb_check.specs.Passed.{Texts, IsInputOf, IsNetlistOf, IsScheduleOf, IsSignedBy, IsCertificateOf, AreTextsOf, Pass}
use Rattle.bb_check.specs.Refused.{IsFormRefused, IsOfForm, AreRefused}
use Rattle.bb_check.specs.Told.{read_for, HoldTexts, AreFilesOf}

-- what is known of texts, of the files' forms and of the rules
pub record FormLaws : Type 0 where
  pub ends : (own : Bool) (limit : ℕ) (text : List ℕ) (a b : Result Named TextRefusal) → ComesTo own limit text a → ComesTo own limit text b → a ≡ b
  pub named : (own : Bool) (text : List ℕ) (a : Named) → ElaboratesTo own text (Ok a) → IsNamed a
  pub plan : (p q : PlanValue) → IsFormedPlan p → IsFormedPlan q → schedule_text p ≡ schedule_text q → p ≡ q
  pub no_schedule : (p : PlanValue) (number : ℕ) → IsFormedPlan p → IsFirstUnformed AreScheduleLines number (schedule_text p) → ⊥
  pub schedule : (text : List ℕ) (number other : ℕ) → IsFirstUnformed AreScheduleLines number text → IsFirstUnformed AreScheduleLines other text → number ≡ other
  pub signed : (s t : List (List Signature)) → AreFormedSignatures s → AreFormedSignatures t → signature_text s ≡ signature_text t → s ≡ t
  pub no_signatures : (s : List (List Signature)) (number : ℕ) → AreFormedSignatures s → IsFirstUnformed AreSignatureLines number (signature_text s) → ⊥
  pub signatures : (text : List ℕ) (number other : ℕ) → IsFirstUnformed AreSignatureLines number text → IsFirstUnformed AreSignatureLines other text → number ≡ other
  pub certified : (c d : CertificateValue) → IsFormedCertificate c → IsFormedCertificate d → certificate_text c ≡ certificate_text d → c ≡ d
  pub no_certificate : (c : CertificateValue) (number : ℕ) → IsFormedCertificate c → IsFirstUnformed AreCertificateLines number (certificate_text c) → ⊥
  pub certificate : (text : List ℕ) (number other : ℕ) → IsFirstUnformed AreCertificateLines number text → IsFirstUnformed AreCertificateLines other text → number ≡ other
  pub one_fault : (f : Audited) (n x m y : ℕ) → IsNamed f.original → IsNamed f.written → IsAuditFault f n x → IsAuditFault f m y → (n ≡ m) × (x ≡ y)
  pub no_fault : (f : Audited) (n x : ℕ) → IsNamed f.original → IsNamed f.written → AuditPasses f → IsAuditFault f n x → ⊥

-- results that are alike have one value, and no value is a fault
ok_same : {A E : Type 0} (a b : A) → ◌≡◌ {A = Result A E} (Ok a) (Ok b) → a ≡ b
ok_same a b e = cc

err_same : {A E : Type 0} (a b : E) → ◌≡◌ {A = Result A E} (Err a) (Err b) → a ≡ b
err_same a b e = cc

ok_apart : {A E : Type 0} (a : A) (b : E) → ◌≡◌ {A = Result A E} (Ok a) (Err b) → ⊥
ok_apart a b e = cc

-- a text of the form has no refusal as one of another form
form_apart : (IsForm : List (List ℕ) → Type 0) (fault : FormRefusal) (text : List ℕ) → length text ≤ output_limit → ((number : ℕ) → IsFirstUnformed IsForm number text → ⊥) → IsFormRefused IsForm fault text → ⊥
form_apart IsForm TooLong text short all refused = omega (arith, short, refused)
form_apart IsForm (Line told) text short all refused = all refused.1.0 refused.1.1

-- and any text has one refusal at most
one_form : (IsForm : List (List ℕ) → Type 0) (a b : FormRefusal) (text : List ℕ)
    → ((number other : ℕ) → IsFirstUnformed IsForm number text → IsFirstUnformed IsForm other text → number ≡ other) → IsFormRefused IsForm a text → IsFormRefused IsForm b text → a ≡ b
one_form IsForm TooLong TooLong text one h k = refl
one_form IsForm TooLong (Line told) text one h k = absurd (omega (arith, h, k.0))
one_form IsForm (Line told) TooLong text one h k = absurd (omega (arith, h.0, k))
one_form IsForm (Line told) (Line other) text one h k =
    let same = one h.1.0 k.1.0 h.1.1 k.1.1 in
    ap (λ n. Line n) (h.1.2 ∙ ap (λ n. min 4294967295 n) same ∙ sym k.1.2)

-- files of the same parts are the same
parts_same : (f g : Audited) → f.original ≡ g.original → f.written ≡ g.written → f.plan ≡ g.plan → f.signatures ≡ g.signatures → f.certificate ≡ g.certificate → f ≡ g
parts_same f g original written plan signatures certificate =
    ap (λ (a : Named). audited a f.written f.plan f.signatures f.certificate) original
    ∙ ap (λ (w : Named). audited g.original w f.plan f.signatures f.certificate) written
    ∙ ap (λ (p : PlanValue). audited g.original g.written p f.signatures f.certificate) plan
    ∙ ap (λ (s : List (List Signature)). audited g.original g.written g.plan s f.certificate) signatures
    ∙ ap (λ (c : CertificateValue). audited g.original g.written g.plan g.signatures c) certificate

module _ (laws : FormLaws) where
  no_input : (text : List ℕ) (fault : TextRefusal) → IsOfForm IsInputOf text → IsTextRefused false file_limit fault text → ⊥
  no_input text fault is refused = ok_apart is.0 fault (laws.ends false file_limit text (Ok is.0) (Err fault) is.1 refused)

  no_netlist : (text : List ℕ) (fault : TextRefusal) → IsOfForm IsNetlistOf text → IsTextRefused true output_limit fault text → ⊥
  no_netlist text fault is refused = ok_apart is.0 fault (laws.ends true output_limit text (Ok is.0) (Err fault) is.1 refused)

  no_schedule : (text : List ℕ) (fault : FormRefusal) → IsOfForm IsScheduleOf text → IsFormRefused AreScheduleLines fault text → ⊥
  no_schedule text fault is refused =
      form_apart AreScheduleLines fault text is.1.short (λ n first. laws.no_schedule is.0 n is.1.formed (subst (IsFirstUnformed AreScheduleLines n) is.1.is first)) refused

  no_signatures : (text : List ℕ) (fault : FormRefusal) → IsOfForm IsSignedBy text → IsFormRefused AreSignatureLines fault text → ⊥
  no_signatures text fault is refused =
      form_apart AreSignatureLines fault text is.1.short (λ n first. laws.no_signatures is.0 n is.1.formed (subst (IsFirstUnformed AreSignatureLines n) is.1.is first)) refused

  no_certificate : (text : List ℕ) (fault : FormRefusal) → IsOfForm IsCertificateOf text → IsFormRefused AreCertificateLines fault text → ⊥
  no_certificate text fault is refused =
      form_apart AreCertificateLines fault text is.1.short (λ n first. laws.no_certificate is.0 n is.1.formed (subst (IsFirstUnformed AreCertificateLines n) is.1.is first)) refused

  -- texts are those of one netlist and its self-test
  one_audited : (f g : Audited) (texts : Texts) → AreTextsOf f texts → AreTextsOf g texts → f ≡ g
  one_audited f g texts are others =
      parts_same f g (ok_same f.original g.original (laws.ends false file_limit texts.input (Ok f.original) (Ok g.original) are.input others.input))
      (ok_same f.written g.written (laws.ends true output_limit texts.netlist (Ok f.written) (Ok g.written) are.netlist others.netlist))
      (laws.plan f.plan g.plan are.schedule.formed others.schedule.formed (sym are.schedule.is ∙ others.schedule.is))
      (laws.signed f.signatures g.signatures are.signatures.formed others.signatures.formed (sym are.signatures.is ∙ others.signatures.is))
      (laws.certified f.certificate g.certificate are.certificate.formed others.certificate.formed (sym are.certificate.is ∙ others.certificate.is))

  -- texts of their forms are refused by a rule alone
  formed_refused : (f : Audited) (texts : Texts) (refusal : Refusal) → AreTextsOf f texts → AreRefused refusal texts → (rule : ℕ) × (place : ℕ) × (refusal ≡ Check rule place) × IsAuditFault f rule place
  formed_refused f texts (Input fault) are refused = absurd (no_input texts.input fault (f.original, are.input) refused)
  formed_refused f texts (Plan fault) are refused = absurd refused
  formed_refused f texts (Netlist fault) are refused = absurd (no_netlist texts.netlist fault (f.written, are.netlist) refused.1)
  formed_refused f texts (Schedule fault) are refused = absurd (no_schedule texts.schedule fault (f.plan, are.schedule) refused.2)
  formed_refused f texts (Signatures fault) are refused = absurd (no_signatures texts.signatures fault (f.signatures, are.signatures) refused.3)
  formed_refused f texts (Certificate fault) are refused = absurd (no_certificate texts.certificate fault (f.certificate, are.certificate) refused.4)
  formed_refused f texts (Check rule place) are refused =
      (rule, place, refl, subst (λ g. IsAuditFault g rule place) (one_audited refused.0 f texts refused.1 are) refused.2)

  -- files that are told to be those that meet every rule have no refusal
  pub told_none : (old : List ℕ → Told) (input prefix : List ℕ) (f : Audited) (texts : Texts) (refusal : Refusal) → AreFilesOf old input prefix f → AuditPasses f
      → HoldTexts old (input ∷ files_of prefix) (read_for refusal texts) → AreRefused refusal texts → ⊥
  told_none old input prefix f texts (Input fault) are meets held refused = no_input texts.input fault (f.original, are.input_is texts.input held.0) refused
  told_none old input prefix f texts (Plan fault) are meets held refused = refused
  told_none old input prefix f texts (Netlist fault) are meets held refused = no_netlist texts.netlist fault (f.written, are.netlist texts.netlist held.1.0) refused.1
  told_none old input prefix f texts (Schedule fault) are meets held refused = no_schedule texts.schedule fault (f.plan, are.schedule texts.schedule held.1.1.0) refused.2
  told_none old input prefix f texts (Signatures fault) are meets held refused =
      no_signatures texts.signatures fault (f.signatures, are.signatures texts.signatures held.1.1.1.0) refused.3
  told_none old input prefix f texts (Certificate fault) are meets held refused =
      no_certificate texts.certificate fault (f.certificate, are.certificate texts.certificate held.1.1.1.1.0) refused.4
  told_none old input prefix f texts (Check rule place) are meets held refused =
      let texts_of : AreTextsOf f texts = record {
        input = are.input_is texts.input held.0;
        netlist = are.netlist texts.netlist held.1.0;
        schedule = are.schedule texts.schedule held.1.1.0;
        signatures = are.signatures texts.signatures held.1.1.1.0;
        certificate = are.certificate texts.certificate held.1.1.1.1.0;
      } in
      laws.no_fault f rule place (laws.named false texts.input f.original texts_of.input.1) (laws.named true texts.netlist f.written texts_of.netlist.1) meets
      (subst (λ g. IsAuditFault g rule place) (one_audited refused.0 f texts refused.1 texts_of) refused.2)

  pub never_both : (texts : Texts) (refusal : Refusal) → Pass texts → AreRefused refusal texts → ⊥
  never_both texts refusal pass refused =
      let f = pass.files in
      let are = pass.texts_of in
      let fault = formed_refused f texts refusal are refused in
      laws.no_fault f fault.0 fault.1 (laws.named false texts.input f.original are.input.1) (laws.named true texts.netlist f.written are.netlist.1) pass.meets fault.3

  pub at_most_one : (texts : Texts) (a b : Refusal) → AreRefused a texts → AreRefused b texts → a ≡ b
  at_most_one texts (Plan f) b h k = absurd h
  at_most_one texts a (Plan g) h k = absurd k
  at_most_one texts (Input f) (Input g) h k = ap (λ r. Input r) (err_same f g (laws.ends false file_limit texts.input (Err f) (Err g) h k))
  at_most_one texts (Input f) (Netlist g) h k = absurd (no_input texts.input f k.0 h)
  at_most_one texts (Input f) (Schedule g) h k = absurd (no_input texts.input f k.0 h)
  at_most_one texts (Input f) (Signatures g) h k = absurd (no_input texts.input f k.0 h)
  at_most_one texts (Input f) (Certificate g) h k = absurd (no_input texts.input f k.0 h)
  at_most_one texts (Input f) (Check n x) h k = absurd (no_input texts.input f (k.0.original, k.1.input) h)
  at_most_one texts (Netlist f) (Input g) h k = absurd (no_input texts.input g h.0 k)
  at_most_one texts (Netlist f) (Netlist g) h k = ap (λ r. Netlist r) (err_same f g (laws.ends true output_limit texts.netlist (Err f) (Err g) h.1 k.1))
  at_most_one texts (Netlist f) (Schedule g) h k = absurd (no_netlist texts.netlist f k.1 h.1)
  at_most_one texts (Netlist f) (Signatures g) h k = absurd (no_netlist texts.netlist f k.1 h.1)
  at_most_one texts (Netlist f) (Certificate g) h k = absurd (no_netlist texts.netlist f k.1 h.1)
  at_most_one texts (Netlist f) (Check n x) h k = absurd (no_netlist texts.netlist f (k.0.written, k.1.netlist) h.1)
  at_most_one texts (Schedule f) (Input g) h k = absurd (no_input texts.input g h.0 k)
  at_most_one texts (Schedule f) (Netlist g) h k = absurd (no_netlist texts.netlist g h.1 k.1)
  at_most_one texts (Schedule f) (Schedule g) h k = ap (λ r. Schedule r) (one_form AreScheduleLines f g texts.schedule (laws.schedule texts.schedule) h.2 k.2)
  at_most_one texts (Schedule f) (Signatures g) h k = absurd (no_schedule texts.schedule f k.2 h.2)
  at_most_one texts (Schedule f) (Certificate g) h k = absurd (no_schedule texts.schedule f k.2 h.2)
  at_most_one texts (Schedule f) (Check n x) h k = absurd (no_schedule texts.schedule f (k.0.plan, k.1.schedule) h.2)
  at_most_one texts (Signatures f) (Input g) h k = absurd (no_input texts.input g h.0 k)
  at_most_one texts (Signatures f) (Netlist g) h k = absurd (no_netlist texts.netlist g h.1 k.1)
  at_most_one texts (Signatures f) (Schedule g) h k = absurd (no_schedule texts.schedule g h.2 k.2)
  at_most_one texts (Signatures f) (Signatures g) h k = ap (λ r. Signatures r) (one_form AreSignatureLines f g texts.signatures (laws.signatures texts.signatures) h.3 k.3)
  at_most_one texts (Signatures f) (Certificate g) h k = absurd (no_signatures texts.signatures f k.3 h.3)
  at_most_one texts (Signatures f) (Check n x) h k = absurd (no_signatures texts.signatures f (k.0.signatures, k.1.signatures) h.3)
  at_most_one texts (Certificate f) (Input g) h k = absurd (no_input texts.input g h.0 k)
  at_most_one texts (Certificate f) (Netlist g) h k = absurd (no_netlist texts.netlist g h.1 k.1)
  at_most_one texts (Certificate f) (Schedule g) h k = absurd (no_schedule texts.schedule g h.2 k.2)
  at_most_one texts (Certificate f) (Signatures g) h k = absurd (no_signatures texts.signatures g h.3 k.3)
  at_most_one texts (Certificate f) (Certificate g) h k = ap (λ r. Certificate r) (one_form AreCertificateLines f g texts.certificate (laws.certificate texts.certificate) h.4 k.4)
  at_most_one texts (Certificate f) (Check n x) h k = absurd (no_certificate texts.certificate f (k.0.certificate, k.1.certificate) h.4)
  at_most_one texts (Check n x) b h k =
      let f = h.0 in
      let fault = formed_refused f texts b h.1 k in
      let same = laws.one_fault f n x fault.0 fault.1 (laws.named false texts.input f.original h.1.input.1) (laws.named true texts.netlist f.written h.1.netlist.1) h.2 fault.3 in
      ap (λ m. Check m x) same.0 ∙ ap (λ y. Check fault.0 y) same.1 ∙ sym fault.2
