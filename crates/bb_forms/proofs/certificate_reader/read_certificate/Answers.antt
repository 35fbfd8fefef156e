use Rattle.std.proofs.Common.{◌≡◌, ◌+◌, min, None, refl, sym, subst, arith}
use Rattle.bb_spell.specs.Front.{Fails}
use Rattle.bb_forms.specs.Reading.{HasLed}
use Rattle.bb_forms.specs.CertificateText.{AreCertificateLines}
use Rattle.bb_forms.specs.CertificateStages.{certificate_stage}
use Rattle.bb_forms.specs.declared.certificate_reader.CertificateStage.TheVariants.{Head, End}
use Rattle.bb_forms.proofs.Readings.{led_on}
use Rattle.bb_forms.proofs.Told.{told_is}
use Rattle.bb_forms.proofs.CertificateReading.{line_refused, line_missing, whole_text, value_formed, only_others}
use Rattle.bb_forms.proofs.certificate_reader.read_certificate.Goals as goal

pub lines-preserved : goal.lines-preserved
lines-preserved c = record {
  led = led_on certificate_stage Head c.lines.stage c.in-Ok.stage c.lines.lines c.args.text.now c.lines.rest.now c.in-Some.line.now c.in-Some.after.now (sym c.in-Some.ensures.value) c.in-Ok.ensures c.lines.invariant.led;
  few = omega (arith, c.in-Some.ensures.shorter, c.lines.invariant.few);
}

pub returns-in-Err-NotCanonical-clause-line : goal.returns-in-Err-NotCanonical-clause-line
returns-in-Err-NotCanonical-clause-line c = λ told e.
    let none : certificate_stage c.lines.stage c.in-Some.line.now ≡ None = subst (λ k. Fails k (certificate_stage c.lines.stage c.in-Some.line.now)) c.in-Err-NotCanonical.field-0-is c.in-Err-NotCanonical.ensures in
    let bad = line_refused c.lines.stage c.lines.lines c.args.text.now c.lines.rest.now c.in-Some.line.now c.in-Some.after.now c.lines.invariant.led (sym c.in-Some.ensures.value) none in
    told_is AreCertificateLines c.args.text.now (min 4294967295 (c.lines.lines + 1)) told c.bad_line.result c.bad_line.ensures e bad

pub returns-in-Err-NotCanonical-clause-only : goal.returns-in-Err-NotCanonical-clause-only
returns-in-Err-NotCanonical-clause-only c = λ told e.
    let none : certificate_stage c.lines.stage c.in-Some.line.now ≡ None = subst (λ k. Fails k (certificate_stage c.lines.stage c.in-Some.line.now)) c.in-Err-NotCanonical.field-0-is c.in-Err-NotCanonical.ensures in
    only_others (min 4294967295 (c.lines.lines + 1)) c.args.text.now (line_refused c.lines.stage c.lines.lines c.args.text.now c.lines.rest.now c.in-Some.line.now c.in-Some.after.now c.lines.invariant.led (sym c.in-Some.ensures.value) none)

pub returns-in-Some-finished-clause-formed : goal.returns-in-Some-finished-clause-formed
returns-in-Some-finished-clause-formed c =
    let led : HasLed certificate_stage Head (End c.in-Some-finished.certificate) c.lines.lines c.args.text.now c.lines.rest.now = subst (λ stage. HasLed certificate_stage Head stage c.lines.lines c.args.text.now c.lines.rest.now) c.in-Some-finished.ensures.value c.lines.invariant.led in
    value_formed c.in-Some-finished.certificate c.lines.lines c.args.text.now c.lines.rest.now led

pub returns-in-Some-finished-clause-text : goal.returns-in-Some-finished-clause-text
returns-in-Some-finished-clause-text c =
    let led : HasLed certificate_stage Head (End c.in-Some-finished.certificate) c.lines.lines c.args.text.now c.lines.rest.now = subst (λ stage. HasLed certificate_stage Head stage c.lines.lines c.args.text.now c.lines.rest.now) c.in-Some-finished.ensures.value c.lines.invariant.led in
    whole_text c.in-Some-finished.certificate c.lines.lines c.args.text.now c.lines.rest.now led (c.in-Some-finished.ensures.ended refl)

pub returns-in-None-clause-line : goal.returns-in-None-clause-line
returns-in-None-clause-line c = λ told e.
    let bad = line_missing c.lines.stage c.lines.lines c.args.text.now c.lines.rest.now c.lines.invariant.led (sym c.in_default.ensures.value) (c.in-None.ensures.unended refl) in
    told_is AreCertificateLines c.args.text.now (min 4294967295 (c.lines.lines + 1)) told c.bad_line-in-None.result c.bad_line-in-None.ensures e bad

pub returns-in-None-clause-only : goal.returns-in-None-clause-only
returns-in-None-clause-only c = λ told e.
    only_others (min 4294967295 (c.lines.lines + 1)) c.args.text.now (line_missing c.lines.stage c.lines.lines c.args.text.now c.lines.rest.now c.lines.invariant.led (sym c.in_default.ensures.value) (c.in-None.ensures.unended refl))
