-- What is judged: the files of a self-test as values, beside the original netlist. Whoever wrote them doesn't matter.
use Rattle.std.specs.Prelude.{List}
use Rattle.bb_base.specs.Named.{Named}
use Rattle.bb_terms.specs.Plan.{PlanValue}
use Rattle.bb_forms.specs.declared.signature.Signature.{Signature}
use Rattle.bb_forms.specs.CertificateText.{CertificateValue}

pub record Audited : Type 0 where
  pub original : Named
  pub written : Named
  pub plan : PlanValue
  pub signatures : List (List Signature)
  pub certificate : CertificateValue

abbrev pub audited : Named → Named → PlanValue → List (List Signature) → CertificateValue → Audited
audited original written plan signatures certificate = record { original = original; written = written; plan = plan; signatures = signatures; certificate = certificate }
