-- What the reader of signatures knows at its exits.
use Rattle.std.proofs.Common.{◌≡◌, ◌≢◌, ℕ, ◌+◌, min, List, [], Some, None, refl}
use Rattle.bb_spell.specs.TextLines.{first_line}
use Rattle.bb_forms.specs.Forms.{IsFirstUnformed, IsUnformedLine}
use Rattle.bb_forms.specs.Reading.{HasLed}
use Rattle.bb_forms.specs.declared.signature.Signature.{Signature}
use Rattle.bb_forms.specs.SignatureText.{signature_lines, signature_text, AreFormedSignatures, AreSignatureLines}
use Rattle.bb_forms.specs.declared.signature_reader.SignatureStage.{SignatureStage}
use Rattle.bb_forms.specs.declared.signature_reader.SignatureStage.TheVariants.{Head, End}
use Rattle.bb_forms.specs.SignatureStages.{signature_stage}
use Rattle.bb_forms.proofs.FormLemmas.{none_bad}
use Rattle.bb_forms.proofs.Readings as reading
use Rattle.bb_forms.proofs.SignatureLemmas.{stage_lines, StageFits, signature_says, signature_begins, signatures_end, signatures_clean, end_same}

pub line_refused : (stage : SignatureStage) (count : ℕ) (text rest line after : List ℕ) → HasLed signature_stage Head stage count text rest → first_line rest ≡ Some (line, after) → signature_stage stage line ≡ None → IsUnformedLine AreSignatureLines (min 4294967295 (count + 1)) text
line_refused stage count text rest line after h f s = (count + 1, reading.bad_here signature_stage stage_lines StageFits signature_says Head End signature_lines AreFormedSignatures tt refl (λ v. refl) signature_begins signatures_end stage count text rest line after h f s, refl)

pub line_missing : (stage : SignatureStage) (count : ℕ) (text rest : List ℕ) → HasLed signature_stage Head stage count text rest → first_line rest ≡ None → ((v : List (List Signature)) → stage ≡ End v → rest ≢ []) → IsUnformedLine AreSignatureLines (min 4294967295 (count + 1)) text
line_missing stage count text rest h f open_end = (count + 1, reading.bad_missing signature_stage stage_lines StageFits signature_says Head End signature_lines AreFormedSignatures tt refl (λ v. refl) signature_begins signatures_end stage count text rest h f open_end, refl)

pub whole_text : (v : List (List Signature)) (count : ℕ) (text rest : List ℕ) → HasLed signature_stage Head (End v) count text rest → rest ≡ [] → text ≡ signature_text v
whole_text = reading.whole_text signature_stage stage_lines StageFits signature_says Head End signature_lines AreFormedSignatures tt refl (λ v. refl) signature_begins signatures_end

pub value_formed : (v : List (List Signature)) (count : ℕ) (text rest : List ℕ) → HasLed signature_stage Head (End v) count text rest → AreFormedSignatures v
value_formed = reading.end_fits signature_stage stage_lines StageFits signature_says Head End signature_lines AreFormedSignatures tt refl (λ v. refl) signature_begins signatures_end

pub stage_formed : (stage : SignatureStage) (count : ℕ) (text rest : List ℕ) → HasLed signature_stage Head stage count text rest → StageFits stage
stage_formed = reading.stage_fits signature_stage stage_lines StageFits signature_says Head End signature_lines AreFormedSignatures tt refl (λ v. refl) signature_begins signatures_end

-- the text of a value has no first bad line, and is that of one value
pub no_bad : (v : List (List Signature)) (number : ℕ) → AreFormedSignatures v → IsFirstUnformed AreSignatureLines number (signature_text v) → ⊥
no_bad v number h = none_bad AreSignatureLines (signature_text v) number (signature_lines v) (signatures_clean v h) (v, h, refl) refl

pub only_others : (told : ℕ) (text : List ℕ) → IsUnformedLine AreSignatureLines told text → (v : List (List Signature)) → AreFormedSignatures v → text ≢ signature_text v
only_others told text bad v h e = none_bad AreSignatureLines text bad.0 (signature_lines v) (signatures_clean v h) (v, h, refl) e bad.1

pub one_text : (v w : List (List Signature)) → AreFormedSignatures v → AreFormedSignatures w → signature_text v ≡ signature_text w → v ≡ w
one_text = reading.one_value signature_stage stage_lines StageFits signature_says Head End signature_lines AreFormedSignatures tt refl (λ v. refl) signature_begins signatures_end end_same signatures_clean
