-- Why texts of a netlist and of its self-test don't pass: the first text that isn't of its form, or else the first rule that they break.
use Rattle.std.specs.Prelude.{ℕ, ◌<◌, ◌≤◌, true, false, List, length}
use Rattle.bb_forms.specs.Forms.{IsUnformedLine}
use Rattle.bb_forms.specs.ScheduleText.{AreScheduleLines}
use Rattle.bb_forms.specs.SignatureText.{AreSignatureLines}
use Rattle.bb_forms.specs.CertificateText.{AreCertificateLines}
use Rattle.bb_audit.specs.Audited.{Audited}
use Rattle.bb_audit.specs.Faults.{IsAuditFault}
use Rattle.bb_read.specs.declared.refusal.FormRefusal.{FormRefusal}
use Rattle.bb_read.specs.declared.refusal.FormRefusal.TheVariants.{TooLong, Line}
use Rattle.bb_read.specs.declared.refusal.Refusal.{Refusal}
use Rattle.bb_read.specs.declared.refusal.Refusal.TheVariants.{Input, Plan, Netlist, Schedule, Signatures, Certificate, Check}
use Rattle.bb_read.specs.Texts.{file_limit, output_limit, IsTextRefused}
use Rattle.bb_check.specs.Passed.{Texts, IsInputOf, IsNetlistOf, IsScheduleOf, IsSignedBy, AreTextsOf}

-- the text isn't of the form: it has more bytes than are read, or else this is its first line that isn't of the form or is missing
abbrev pub IsFormRefused : (List (List ℕ) → Type 0) → FormRefusal → List ℕ → Type 0
IsFormRefused IsForm TooLong text = output_limit < length text
IsFormRefused IsForm (Line told) text = (length text ≤ output_limit) × IsUnformedLine IsForm told text

-- the text is of the form of these: it is that of one of them
abbrev pub IsOfForm : {A : Type 0} → (A → List ℕ → Type 0) → List ℕ → Type 0
IsOfForm {A} IsTextOf text = (value : A) × IsTextOf value text

-- the texts have this refusal: those before the one that it names are of their forms
abbrev pub AreRefused : Refusal → Texts → Type 0
AreRefused (Input fault) texts = IsTextRefused false file_limit fault texts.input
AreRefused (Plan fault) texts = ⊥
AreRefused (Netlist fault) texts = IsOfForm IsInputOf texts.input × IsTextRefused true output_limit fault texts.netlist
AreRefused (Schedule fault) texts = IsOfForm IsInputOf texts.input × IsOfForm IsNetlistOf texts.netlist × IsFormRefused AreScheduleLines fault texts.schedule
AreRefused (Signatures fault) texts =
    IsOfForm IsInputOf texts.input × IsOfForm IsNetlistOf texts.netlist × IsOfForm IsScheduleOf texts.schedule × IsFormRefused AreSignatureLines fault texts.signatures
AreRefused (Certificate fault) texts =
    IsOfForm IsInputOf texts.input × IsOfForm IsNetlistOf texts.netlist × IsOfForm IsScheduleOf texts.schedule × IsOfForm IsSignedBy texts.signatures
    × IsFormRefused AreCertificateLines fault texts.certificate
AreRefused (Check rule place) texts = (f : Audited) × AreTextsOf f texts × IsAuditFault f rule place
