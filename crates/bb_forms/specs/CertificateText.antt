-- The text of a certificate: the period of the walk, and a line for each segment. It is this project's own.
use Rattle.std.specs.Prelude.{◌≡◌, ℕ, ◌<◌, ◌≤◌, List, [], ◌∷◌, ◌++◌, map, length, codes}
use Rattle.std.specs.List.{AllByRecursion, flat_map}
use Rattle.bb_spell.specs.Canonical.{with_feed}
use Rattle.bb_forms.specs.Fields.{field_limit, number_word, hex_word}

-- an observer's cell number, and for each of its leaves the number of the source cell and the dual of its column
pub record CertificateSegmentValue : Type 0 where
  pub cell : ℕ
  pub pairs : List (ℕ × ℕ)

pub record CertificateValue : Type 0 where
  pub period : ℕ
  pub segments : List CertificateSegmentValue

-- a leaf as two further words of a line
abbrev pub pair_words : ℕ × ℕ → List ℕ
pair_words pair = number_word pair.0 ++ hex_word pair.1

abbrev pub segment_line : CertificateSegmentValue → List ℕ
segment_line segment = codes "segment" ++ (number_word segment.cell ++ flat_map pair_words segment.pairs)

abbrev pub period_line : ℕ → List ℕ
period_line period = codes "period" ++ number_word period

abbrev pub certificate_lines : CertificateValue → List (List ℕ)
certificate_lines c = codes "bilbo-certificate 1" ∷ period_line c.period ∷ (map segment_line c.segments ++ codes "end" ∷ [])

-- the text of a certificate
abbrev pub certificate_text : CertificateValue → List ℕ
certificate_text c = flat_map with_feed (certificate_lines c)

abbrev pub IsPair : ℕ × ℕ → Type 0
IsPair pair = (pair.0 < field_limit) × (pair.1 < field_limit)

pub record IsFormedSegment (segment : CertificateSegmentValue) : Type 0 where
  pub cell : segment.cell < field_limit
  pub few : length segment.pairs ≤ 16
  pub pairs : AllByRecursion IsPair segment.pairs

-- what the form can say: numbers below 2^32, and at most 16 leaves of a segment
pub record IsFormedCertificate (c : CertificateValue) : Type 0 where
  pub period : c.period < field_limit
  pub segments : AllByRecursion IsFormedSegment c.segments

-- the lines are those of some certificate
abbrev pub AreCertificateLines : List (List ℕ) → Type 0
AreCertificateLines lines = (c : CertificateValue) × IsFormedCertificate c × (lines ≡ certificate_lines c)
