use Rattle.std.proofs.Common.{◌≤◌, ◌+◌, length}
use Rattle.bb_forms.specs.Reading.{HasLed}
use Rattle.bb_forms.specs.SignatureStages.{signature_stage}
use Rattle.bb_forms.specs.declared.signature_reader.SignatureStage.TheVariants.{Head}
use Rattle.bb_forms.proofs.signature_reader.read_signatures.Given as goal

abbrev pub invariant-lines : goal.invariant-lines
invariant-lines l = record {
  led : HasLed signature_stage Head l.stage l.lines l.text l.rest;
  few : l.lines + length l.rest ≤ length l.text;
}

abbrev pub decreases-lines : goal.decreases-lines
decreases-lines l = length l.rest
