-- The rules of a whole self-test: those of its plan, and four on its certificate, its netlist and its signatures.
use Rattle.std.specs.Prelude.{◌≡◌, ℕ}
use Rattle.bb_terms.specs.Rules.{Rule, rule_number, Holds}
use Rattle.bb_terms.specs.Valid.{ValidValue, IsValidFor}
use Rattle.bb_written.specs.Written.{written}
use Rattle.bb_normal.specs.Mirrors.{Mirrors}
use Rattle.bb_audit.specs.Audited.{Audited}
use Rattle.bb_audit.specs.Certified.{ListsSegments, AllHaveDuals}
use Rattle.bb_audit.specs.Signed.{AreSessionSignatures}

-- the rules in the order in which they are tried
pub data AuditRule : Type 0 where
  Planned : (rule : Rule) → AuditRule
  Segments : AuditRule
  Duals : AuditRule
  Drivers : AuditRule
  Signatures : AuditRule

abbrev pub audit_number : AuditRule → ℕ
audit_number (Planned rule) = rule_number rule
audit_number Segments = 15
audit_number Duals = 16
audit_number Drivers = 17
audit_number Signatures = 18

-- the plan with its segments, of which a valid plan has one list
pub record IsPlanWithSegments (f : Audited) (valid : ValidValue) : Type 0 where
  pub valid_for : IsValidFor f.original.netlist valid
  pub plan : valid.plan ≡ f.plan

-- the files meet the rule
abbrev pub FilesMeet : Audited → AuditRule → Type 0
FilesMeet f (Planned rule) = Holds f.original.netlist f.plan rule
FilesMeet f Segments = (valid : ValidValue) × IsPlanWithSegments f valid × ListsSegments valid f.certificate
FilesMeet f Duals = AllHaveDuals f.plan f.certificate.segments
FilesMeet f Drivers = Mirrors (written f.original f.plan) f.written
FilesMeet f Signatures = AreSessionSignatures f.original.netlist f.plan f.signatures

-- they meet every rule
pub record AuditPasses (f : Audited) : Type 0 where
  pub meets : (rule : AuditRule) → FilesMeet f rule
