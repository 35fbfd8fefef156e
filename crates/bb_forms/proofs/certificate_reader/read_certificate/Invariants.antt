use Rattle.std.proofs.Common.{◌≤◌, ◌+◌, length}
use Rattle.bb_forms.specs.Reading.{HasLed}
use Rattle.bb_forms.specs.CertificateStages.{certificate_stage}
use Rattle.bb_forms.specs.declared.certificate_reader.CertificateStage.TheVariants.{Head}
use Rattle.bb_forms.proofs.certificate_reader.read_certificate.Given as goal

abbrev pub invariant-lines : goal.invariant-lines
invariant-lines l = record {
  led : HasLed certificate_stage Head l.stage l.lines l.text l.rest;
  few : l.lines + length l.rest ≤ length l.text;
}

abbrev pub decreases-lines : goal.decreases-lines
decreases-lines l = length l.rest
