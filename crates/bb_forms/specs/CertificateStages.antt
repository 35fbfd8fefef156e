-- How a text of a certificate is read line by line. No public contract cites this.
use Rattle.std.specs.Prelude.{ℕ, List, [], ◌∷◌, ◌++◌, codes, Option, Some, None, if◌then◌else◌}
use Rattle.std.specs.Str.{bytes_eq}
use Rattle.bb_spell.specs.Front.{◌>>=◌, after_mark}
use Rattle.bb_forms.specs.declared.certificate_reader.CertificateStage.{CertificateStage}
use Rattle.bb_forms.specs.declared.certificate_reader.CertificateStage.TheVariants.{Head, Period, Segments, End}
use Rattle.bb_forms.specs.CertificateText.{CertificateSegmentValue, CertificateValue}
use Rattle.bb_forms.specs.Fields.{field_limit}
use Rattle.bb_forms.specs.Reading.{front_number, front_hex, marked_number, listed_items}

-- the leaf that the next two words say
unfoldable pub pair_at : List ℕ → Option ((ℕ × ℕ) × List ℕ)
pair_at bytes = do
  cell ← front_number field_limit bytes
  dual ← front_hex cell.1
  Some ((cell.0, dual.0), dual.1)

-- the segment that a line says
unfoldable pub segment_of : List ℕ → Option CertificateSegmentValue
segment_of line = do
  from ← after_mark (codes "segment") line
  cell ← front_number field_limit from
  pairs ← listed_items pair_at 16 cell.1
  Some (record { cell = cell.0; pairs = pairs })

-- another segment comes, or the text ends
unfoldable pub behind_segment : CertificateValue → List ℕ → Option CertificateStage
behind_segment c line = if bytes_eq line (codes "end") then Some (End c) else (segment_of line >>= (λ s. Some (Segments (record { period = c.period; segments = c.segments ++ s ∷ [] }))))

-- the stage behind a line
abbrev pub certificate_stage : CertificateStage → List ℕ → Option CertificateStage
certificate_stage Head line = if bytes_eq line (codes "bilbo-certificate 1") then Some Period else None
certificate_stage Period line = marked_number (codes "period") field_limit line >>= (λ n. Some (Segments (record { period = n; segments = [] })))
certificate_stage (Segments c) line = behind_segment c line
certificate_stage (End c) line = None
