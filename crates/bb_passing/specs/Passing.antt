-- The values that the texts of a self-test say, where they pass beside the original (this project's own).
use Rattle.std.specs.Prelude.{◌≡◌}
use Rattle.bb_base.specs.Named.{Named}
use Rattle.bb_forms.specs.ScheduleText.{schedule_text, IsFormedPlan}
use Rattle.bb_forms.specs.SignatureText.{signature_text, AreFormedSignatures}
use Rattle.bb_forms.specs.CertificateText.{certificate_text, IsFormedCertificate}
use Rattle.bb_make.specs.Artifacts.{ArtifactsValue, DenotesOnly}
use Rattle.bb_audit.specs.Audited.{Audited}
use Rattle.bb_audit.specs.Passing.{AuditPasses}

-- Beside a, the texts say these values and no others, and they meet every rule.
pub record PassAs (a : Named) (made : ArtifactsValue) (f : Audited) : Type 0 where
  pub original : f.original ≡ a
  pub netlist : DenotesOnly made.netlist f.written
  pub plan : IsFormedPlan f.plan
  pub schedule : made.schedule ≡ schedule_text f.plan
  pub listed : AreFormedSignatures f.signatures
  pub signatures : made.signatures ≡ signature_text f.signatures
  pub certified : IsFormedCertificate f.certificate
  pub certificate : made.certificate ≡ certificate_text f.certificate
  pub passes : AuditPasses f
