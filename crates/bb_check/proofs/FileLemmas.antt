-- What the files that were read so far come to.
use Rattle.std.proofs.Common.{◌≡◌, inl, inr, ℕ, ◌≤◌, List, ◌∷◌, ◌++◌, codes, true, false, Ok, Err, sym, subst, arith}
use Rattle.std.specs.Prelude.{Result, OnOk}
use Rattle.bb_edge.specs.Causes.{Rose}
use Rattle.bb_edge.specs.Told.{Told}
use Rattle.bb_base.specs.Named.{Named}
use Rattle.bb_words.specs.Commands.{files_of}
use Rattle.bb_terms.specs.Plan.{PlanValue}
use Rattle.bb_selftest.specs.SelfTest.{IsSelfTest}
use Rattle.bb_forms.specs.declared.signature.Signature.{Signature}
use Rattle.bb_forms.specs.ScheduleText.{AreScheduleLines}
use Rattle.bb_forms.specs.SignatureText.{AreSignatureLines}
use Rattle.bb_forms.specs.CertificateText.{AreCertificateLines}
use Rattle.bb_audit.specs.Audited.{Audited}
use Rattle.bb_audit.specs.Signed.{values_of}
use Rattle.bb_audit.specs.Passing.{AuditPasses}
use Rattle.bb_audit.specs.Faults.{IsAuditFault}
use Rattle.bb_read.specs.declared.refusal.TextRefusal.{TextRefusal}
use Rattle.bb_read.specs.declared.refusal.FormRefusal.{FormRefusal}
use Rattle.bb_read.specs.declared.refusal.Refusal.{Refusal}
use Rattle.bb_read.specs.declared.refusal.Refusal.TheVariants.{Input, Plan, Netlist, Schedule, Signatures, Certificate, Check}
use Rattle.bb_read.specs.declared.stop.Stop.{Stop}
use Rattle.bb_read.specs.declared.stop.Stop.TheVariants.{Refused}
use Rattle.bb_read.specs.Texts.{file_limit, output_limit, IsTextRefused}
use Rattle.bb_check.specs.Passed.{Texts, IsInputOf, IsNetlistOf, IsScheduleOf, IsSignedBy, IsCertificateOf}
use Rattle.bb_check.specs.Refused.{IsFormRefused}
use Rattle.bb_check.specs.Told.{in_order, read_for, HoldTexts, Tells, AreFilesOf, FilesPass, AreFilesRefused}

-- what stops two calls alike is one refusal
pub stop_same : {T : Type 0} (a b : Refusal) → ◌≡◌ {A = Result T Stop} (Err (Refused a)) (Err (Refused b)) → a ≡ b
stop_same a b e = cc

-- and so where the first of them handed it on
pub stops_with : {T U : Type 0} (result : Result T Stop) (from into : Stop) (refusal : Refusal) → result ≡ Err into → into ≡ from → result ≡ Err (Refused refusal)
    → ◌≡◌ {A = Result U Stop} (Err from) (Err (Refused refusal))
stops_with result from into refusal is gives e = cc

-- what follows from one or two facts of a success
pub on_ok : {T E P Q : Type 0} (result : Result T E) → (P → Q) → OnOk result P → OnOk result Q
on_ok (Ok x) f p = f p
on_ok (Err e) f p = tt

pub on_ok_both : {T E P Q R : Type 0} (result : Result T E) → (P → Q → R) → OnOk result P → OnOk result Q → OnOk result R
on_ok_both (Ok x) f p q = f p q
on_ok_both (Err e) f p q = tt

-- a count that rose later rose
pub rose_since : (before mid now : ℕ) → before ≤ mid → Rose mid now → Rose before now
rose_since before mid now later (inl rose) = inl (omega (arith, later, rose))
rose_since before mid now later (inr last) = inr last

-- what is told of a name is told of it where all names hold the same
pub still : (old mid : List ℕ → Told) (name : List ℕ) (Is : List ℕ → Type 0) → mid ≡ old → Tells mid name Is → Tells old name Is
still old mid name Is same told = subst (λ o. Tells o name Is) same told

pub still_back : (old new : List ℕ → Told) (name : List ℕ) (Is : List ℕ → Type 0) → new ≡ old → Tells old name Is → Tells new name Is
still_back old new name Is same told = subst (λ o. Tells o name Is) (sym same) told

-- why a file that was read gives no netlist, and why one gives nothing of its form
abbrev pub NetlistStops : (old : List ℕ → Told) (name : List ℕ) (kind : TextRefusal → Refusal) → (TextRefusal → List ℕ → Type 0) → Refusal → Type 0
NetlistStops old name kind Is refusal = (fault : TextRefusal) × (refusal ≡ kind fault) × Tells old name (Is fault)

abbrev pub FormStops : (old : List ℕ → Told) (name : List ℕ) (kind : FormRefusal → Refusal) → (List (List ℕ) → Type 0) → Refusal → Type 0
FormStops old name kind IsForm refusal = (fault : FormRefusal) × (refusal ≡ kind fault) × Tells old name (IsFormRefused IsForm fault)

module _ (old : List ℕ → Told) (input prefix : List ℕ) (refusal : Refusal) where
  pub input_refused : NetlistStops old input (λ fault. Input fault) (IsTextRefused false file_limit) refusal → AreFilesRefused input prefix refusal old
  input_refused stops = subst (λ r. AreFilesRefused input prefix r old) (sym stops.1) (λ texts held. stops.2 texts.input held.0)

  pub netlist_refused : (mid : List ℕ → Told) → mid ≡ old → (a : Named) → Tells old input (IsInputOf a)
      → NetlistStops mid (prefix ++ codes ".v") (λ fault. Netlist fault) (IsTextRefused true output_limit) refusal → AreFilesRefused input prefix refusal old
  netlist_refused mid same a is stops =
      subst (λ r. AreFilesRefused input prefix r old) (sym stops.1)
      (λ texts held. ((a, is texts.input held.0), still old mid (prefix ++ codes ".v") (IsTextRefused true output_limit stops.0) same stops.2 texts.netlist held.1.0))

  module _ (a w : Named) (is_input : Tells old input (IsInputOf a)) (is_netlist : Tells old (prefix ++ codes ".v") (IsNetlistOf w)) where
    pub schedule_refused : FormStops old (prefix ++ codes ".sched") (λ fault. Schedule fault) AreScheduleLines refusal → AreFilesRefused input prefix refusal old
    schedule_refused stops =
        subst (λ r. AreFilesRefused input prefix r old) (sym stops.1)
        (λ texts held. ((a, is_input texts.input held.0), (w, is_netlist texts.netlist held.1.0), stops.2 texts.schedule held.1.1.0))

    pub signatures_refused : (mid : List ℕ → Told) → mid ≡ old → (p : PlanValue) → Tells old (prefix ++ codes ".sched") (IsScheduleOf p)
        → FormStops mid (prefix ++ codes ".sig") (λ fault. Signatures fault) AreSignatureLines refusal → AreFilesRefused input prefix refusal old
    signatures_refused mid same p is_schedule stops =
        subst (λ r. AreFilesRefused input prefix r old) (sym stops.1)
        (λ texts held. (
          (a, is_input texts.input held.0),
          (w, is_netlist texts.netlist held.1.0),
          (p, is_schedule texts.schedule held.1.1.0),
          still old mid (prefix ++ codes ".sig") (IsFormRefused AreSignatureLines stops.0) same stops.2 texts.signatures held.1.1.1.0,
        ))

    pub certificate_refused : (mid end : List ℕ → Told) → mid ≡ old → end ≡ mid → (p : PlanValue) → Tells old (prefix ++ codes ".sched") (IsScheduleOf p)
        → (s : List (List Signature)) → Tells mid (prefix ++ codes ".sig") (IsSignedBy s)
        → FormStops end (prefix ++ codes ".cert") (λ fault. Certificate fault) AreCertificateLines refusal → AreFilesRefused input prefix refusal old
    certificate_refused mid end same later p is_schedule s is_signed stops =
        let certified = still mid end (prefix ++ codes ".cert") (IsFormRefused AreCertificateLines stops.0) later stops.2 in
        subst (λ r. AreFilesRefused input prefix r old) (sym stops.1)
        (λ texts held. (
          (a, is_input texts.input held.0),
          (w, is_netlist texts.netlist held.1.0),
          (p, is_schedule texts.schedule held.1.1.0),
          (s, still old mid (prefix ++ codes ".sig") (IsSignedBy s) same is_signed texts.signatures held.1.1.1.0),
          still old mid (prefix ++ codes ".cert") (IsFormRefused AreCertificateLines stops.0) same certified texts.certificate held.1.1.1.1.0,
        ))

module _ (old : List ℕ → Told) (input prefix : List ℕ) (f : Audited) (are : AreFilesOf old input prefix f) where
  pub files_pass : AuditPasses f → IsSelfTest f.original f.written f.plan (values_of f.signatures) → FilesPass input prefix old
  files_pass meets good = λ texts held. record {
    files = f;
    texts_of = record {
      input = are.input_is texts.input held.0;
      netlist = are.netlist texts.netlist held.1.0;
      schedule = are.schedule texts.schedule held.1.1.0;
      signatures = are.signatures texts.signatures held.1.1.1.0;
      certificate = are.certificate texts.certificate held.1.1.1.1.0;
    };
    meets = meets;
    good = good;
  }

  pub check_refused : (refusal : Refusal) → ((rule : ℕ) × (place : ℕ) × (refusal ≡ Check rule place) × IsAuditFault f rule place) → AreFilesRefused input prefix refusal old
  check_refused refusal stops =
      subst (λ r. AreFilesRefused input prefix r old) (sym stops.2)
      (λ texts held. (
        f,
        record {
          input = are.input_is texts.input held.0;
          netlist = are.netlist texts.netlist held.1.0;
          schedule = are.schedule texts.schedule held.1.1.0;
          signatures = are.signatures texts.signatures held.1.1.1.0;
          certificate = are.certificate texts.certificate held.1.1.1.1.0;
        },
        stops.3,
      ))

-- what three readings in turn told
pub files_are : (old mid end : List ℕ → Told) (input prefix : List ℕ) (f : Audited) → mid ≡ old → end ≡ mid → Tells old input (IsInputOf f.original)
    → Tells old (prefix ++ codes ".v") (IsNetlistOf f.written) → Tells old (prefix ++ codes ".sched") (IsScheduleOf f.plan) → Tells mid (prefix ++ codes ".sig") (IsSignedBy f.signatures)
    → Tells end (prefix ++ codes ".cert") (IsCertificateOf f.certificate) → AreFilesOf old input prefix f
files_are old mid end input prefix f same later input_is netlist schedule signatures certificate = record {
  input_is = input_is;
  netlist = netlist;
  schedule = schedule;
  signatures = still old mid (prefix ++ codes ".sig") (IsSignedBy f.signatures) same signatures;
  certificate = still old mid (prefix ++ codes ".cert") (IsCertificateOf f.certificate) same (still mid end (prefix ++ codes ".cert") (IsCertificateOf f.certificate) later certificate);
}

-- names that hold all texts hold those that were read for a refusal
pub held_for : (old : List ℕ → Told) (input prefix : List ℕ) (refusal : Refusal) (texts : Texts) → HoldTexts old (input ∷ files_of prefix) (in_order texts)
    → HoldTexts old (input ∷ files_of prefix) (read_for refusal texts)
held_for old input prefix (Input fault) texts held = (held.0, tt)
held_for old input prefix (Plan fault) texts held = tt
held_for old input prefix (Netlist fault) texts held = (held.0, (held.1.0, tt))
held_for old input prefix (Schedule fault) texts held = (held.0, (held.1.0, (held.1.1.0, tt)))
held_for old input prefix (Signatures fault) texts held = (held.0, (held.1.0, (held.1.1.0, (held.1.1.1.0, tt))))
held_for old input prefix (Certificate fault) texts held = held
held_for old input prefix (Check rule place) texts held = held
