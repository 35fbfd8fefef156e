-- What the reader of a certificate knows at its exits.
use Rattle.std.proofs.Common.{◌≡◌, ◌≢◌, ℕ, ◌+◌, min, List, [], Some, None, refl}
use Rattle.bb_spell.specs.TextLines.{first_line}
use Rattle.bb_forms.specs.Forms.{IsFirstUnformed, IsUnformedLine}
use Rattle.bb_forms.specs.Reading.{HasLed}
use Rattle.bb_forms.specs.CertificateText.{CertificateValue, certificate_lines, certificate_text, IsFormedCertificate, AreCertificateLines}
use Rattle.bb_forms.specs.declared.certificate_reader.CertificateStage.{CertificateStage}
use Rattle.bb_forms.specs.declared.certificate_reader.CertificateStage.TheVariants.{Head, End}
use Rattle.bb_forms.specs.CertificateStages.{certificate_stage}
use Rattle.bb_forms.proofs.FormLemmas.{none_bad}
use Rattle.bb_forms.proofs.Readings as reading
use Rattle.bb_forms.proofs.CertificateLemmas.{stage_lines, StageFits, certificate_says, certificate_begins, certificate_ends, certificate_clean, end_same}

pub line_refused : (stage : CertificateStage) (count : ℕ) (text rest line after : List ℕ) → HasLed certificate_stage Head stage count text rest → first_line rest ≡ Some (line, after) → certificate_stage stage line ≡ None → IsUnformedLine AreCertificateLines (min 4294967295 (count + 1)) text
line_refused stage count text rest line after h f s = (count + 1, reading.bad_here certificate_stage stage_lines StageFits certificate_says Head End certificate_lines IsFormedCertificate tt refl (λ v. refl) certificate_begins certificate_ends stage count text rest line after h f s, refl)

pub line_missing : (stage : CertificateStage) (count : ℕ) (text rest : List ℕ) → HasLed certificate_stage Head stage count text rest → first_line rest ≡ None → ((v : CertificateValue) → stage ≡ End v → rest ≢ []) → IsUnformedLine AreCertificateLines (min 4294967295 (count + 1)) text
line_missing stage count text rest h f open_end = (count + 1, reading.bad_missing certificate_stage stage_lines StageFits certificate_says Head End certificate_lines IsFormedCertificate tt refl (λ v. refl) certificate_begins certificate_ends stage count text rest h f open_end, refl)

pub whole_text : (v : CertificateValue) (count : ℕ) (text rest : List ℕ) → HasLed certificate_stage Head (End v) count text rest → rest ≡ [] → text ≡ certificate_text v
whole_text = reading.whole_text certificate_stage stage_lines StageFits certificate_says Head End certificate_lines IsFormedCertificate tt refl (λ v. refl) certificate_begins certificate_ends

pub value_formed : (v : CertificateValue) (count : ℕ) (text rest : List ℕ) → HasLed certificate_stage Head (End v) count text rest → IsFormedCertificate v
value_formed = reading.end_fits certificate_stage stage_lines StageFits certificate_says Head End certificate_lines IsFormedCertificate tt refl (λ v. refl) certificate_begins certificate_ends

pub stage_formed : (stage : CertificateStage) (count : ℕ) (text rest : List ℕ) → HasLed certificate_stage Head stage count text rest → StageFits stage
stage_formed = reading.stage_fits certificate_stage stage_lines StageFits certificate_says Head End certificate_lines IsFormedCertificate tt refl (λ v. refl) certificate_begins certificate_ends

-- the text of a value has no first bad line, and is that of one value
pub no_bad : (v : CertificateValue) (number : ℕ) → IsFormedCertificate v → IsFirstUnformed AreCertificateLines number (certificate_text v) → ⊥
no_bad v number h = none_bad AreCertificateLines (certificate_text v) number (certificate_lines v) (certificate_clean v h) (v, h, refl) refl

pub only_others : (told : ℕ) (text : List ℕ) → IsUnformedLine AreCertificateLines told text → (v : CertificateValue) → IsFormedCertificate v → text ≢ certificate_text v
only_others told text bad v h e = none_bad AreCertificateLines text bad.0 (certificate_lines v) (certificate_clean v h) (v, h, refl) e bad.1

pub one_text : (v w : CertificateValue) → IsFormedCertificate v → IsFormedCertificate w → certificate_text v ≡ certificate_text w → v ≡ w
one_text = reading.one_value certificate_stage stage_lines StageFits certificate_says Head End certificate_lines IsFormedCertificate tt refl (λ v. refl) certificate_begins certificate_ends end_same certificate_clean
