-- Texts of a netlist and of the four files of its self-test, and which of them pass (this project's own).
use Rattle.std.specs.Prelude.{◌≡◌, ℕ, ◌≤◌, true, false, List, length, Ok}
use Rattle.bb_base.specs.Named.{Named}
use Rattle.bb_terms.specs.Plan.{PlanValue}
use Rattle.bb_forms.specs.declared.signature.Signature.{Signature}
use Rattle.bb_forms.specs.ScheduleText.{IsFormedPlan, schedule_text}
use Rattle.bb_forms.specs.SignatureText.{AreFormedSignatures, signature_text}
use Rattle.bb_forms.specs.CertificateText.{CertificateValue, IsFormedCertificate, certificate_text}
use Rattle.bb_selftest.specs.SelfTest.{IsSelfTest}
use Rattle.bb_audit.specs.Audited.{Audited}
use Rattle.bb_audit.specs.Signed.{values_of}
use Rattle.bb_audit.specs.Passing.{AuditPasses}
use Rattle.bb_read.specs.Texts.{file_limit, output_limit, ComesTo}

-- the texts: that of the input, and those of the netlist with its self-test, the schedule, the signatures and the certificate
pub record Texts : Type 0 where
  pub input : List ℕ
  pub netlist : List ℕ
  pub schedule : List ℕ
  pub signatures : List ℕ
  pub certificate : List ℕ

-- the input's text denotes this netlist
abbrev pub IsInputOf : Named → List ℕ → Type 0
IsInputOf a text = ComesTo false file_limit text (Ok a)

-- the text denotes this netlist, which may use names of this project's own
abbrev pub IsNetlistOf : Named → List ℕ → Type 0
IsNetlistOf a text = ComesTo true output_limit text (Ok a)

-- the text is the schedule of this plan, and isn't too long
pub record IsScheduleOf (p : PlanValue) (text : List ℕ) : Type 0 where
  pub short : length text ≤ output_limit
  pub formed : IsFormedPlan p
  pub is : text ≡ schedule_text p

-- the text is that of these signatures, session by session
pub record IsSignedBy (sessions : List (List Signature)) (text : List ℕ) : Type 0 where
  pub short : length text ≤ output_limit
  pub formed : AreFormedSignatures sessions
  pub is : text ≡ signature_text sessions

-- the text is that of this certificate
pub record IsCertificateOf (c : CertificateValue) (text : List ℕ) : Type 0 where
  pub short : length text ≤ output_limit
  pub formed : IsFormedCertificate c
  pub is : text ≡ certificate_text c

-- each text is the text of its part of what is judged
pub record AreTextsOf (f : Audited) (texts : Texts) : Type 0 where
  pub input : IsInputOf f.original texts.input
  pub netlist : IsNetlistOf f.written texts.netlist
  pub schedule : IsScheduleOf f.plan texts.schedule
  pub signatures : IsSignedBy f.signatures texts.signatures
  pub certificate : IsCertificateOf f.certificate texts.certificate

-- The texts pass: they are texts of files that meet every rule. So the netlist is a self-test of the input's by the schedule's plan, with
-- the signatures that are listed.
pub record Pass (texts : Texts) : Type 0 where
  pub files : Audited
  pub texts_of : AreTextsOf files texts
  pub meets : AuditPasses files
  pub good : IsSelfTest files.original files.written files.plan (values_of files.signatures)
