-- How a text of signatures is read line by line. No public contract cites this.
use Rattle.std.specs.Prelude.{ℕ, ◌==◌, List, [], ◌∷◌, ◌++◌, length, codes, Option, Some, None, if◌then◌else◌}
use Rattle.std.specs.Str.{bytes_eq}
use Rattle.bb_spell.specs.Front.{◌>>=◌, begins_with, after_mark, at_end}
use Rattle.bb_forms.specs.declared.signature.Signature.{Signature}
use Rattle.bb_forms.specs.declared.signature_reader.SignatureStage.{SignatureStage}
use Rattle.bb_forms.specs.declared.signature_reader.SignatureStage.TheVariants.{Head, First, Within, End}
use Rattle.bb_forms.specs.Fields.{field_limit}
use Rattle.bb_forms.specs.Reading.{front_number, front_hex, marked_number}

-- the signature that a line says
unfoldable pub signature_of : List ℕ → Option Signature
signature_of line = do
  from ← after_mark (codes "register") line
  register ← front_number field_limit from
  value ← front_hex register.1
  at_end (record { register = register.0; value = value.0 }) [] value.1

-- behind whole sessions: another one begins, or the text ends
unfoldable pub behind_signed : List (List Signature) → List ℕ → Option SignatureStage
behind_signed done line = if bytes_eq line (codes "end") then Some (End done) else (marked_number (codes "session") field_limit line >>= (λ n. if n == length done then Some (Within (record { done = done; current = [] })) else None))

unfoldable pub within_signed : List (List Signature) → List Signature → List ℕ → Option SignatureStage
within_signed done current line = if begins_with (codes "register") line then (signature_of line >>= (λ s. Some (Within (record { done = done; current = current ++ s ∷ [] })))) else behind_signed (done ++ current ∷ []) line

-- the stage behind a line
abbrev pub signature_stage : SignatureStage → List ℕ → Option SignatureStage
signature_stage Head line = if bytes_eq line (codes "bilbo-signatures 1") then Some First else None
signature_stage First line = behind_signed [] line
signature_stage (Within listing) line = within_signed listing.done listing.current line
signature_stage (End sessions) line = None
