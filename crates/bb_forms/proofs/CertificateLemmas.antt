-- The text of a certificate, read line by line.
use Rattle.std.proofs.Common.{◌≡◌, ℕ, ◌<◌, List, [], ◌∷◌, ◌++◌, length, map, codes, decimal, Some, refl, sym, ap, ◌∙◌, arith, append_assoc, length-append, subst}
use Rattle.std.specs.List.{AllByRecursion, flat_map, prefix_len}
use Rattle.std.specs.Char.{is_ascii_digit}
use Rattle.std.specs.Str.{bytes_eq}
use Rattle.std.proofs.lemmas.List.{append-nil}
use Rattle.bb_base.proofs.Lists.{all_join, map_join}
use Rattle.bb_spell.specs.Front.{◌>>=◌, after_mark}
use Rattle.bb_spell.specs.TextLines.{IsLine}
use Rattle.bb_spell.proofs.Back.{Back, mark_back, same_bytes, choice_told, some_same}
use Rattle.bb_spell.proofs.Shorter.{bind_some, guard_some, found_same}
use Rattle.bb_forms.specs.declared.certificate_reader.CertificateStage.{CertificateStage}
use Rattle.bb_forms.specs.declared.certificate_reader.CertificateStage.TheVariants.{Head, Period, Segments, End}
use Rattle.bb_forms.specs.CertificateText.{CertificateSegmentValue, CertificateValue, pair_words, segment_line, period_line, certificate_lines, IsPair, IsFormedSegment, IsFormedCertificate}
use Rattle.bb_forms.specs.CertificateStages.{pair_at, segment_of, behind_segment, certificate_stage}
use Rattle.bb_forms.specs.Fields.{field_limit, number_word, hex_word}
use Rattle.bb_forms.specs.Reading.{front_number, front_hex, marked_number, listed_items, stage_behind}
use Rattle.bb_forms.proofs.CleanLemmas.{clean_join, clean_parts, number_clean, hex_clean}
use Rattle.bb_forms.proofs.FieldLemmas.{front_number_back, front_number_again, front_hex_back, front_hex_again, marked_number_back, marked_number_again}
use Rattle.bb_forms.proofs.ItemLemmas.{items_back, items_again}

abbrev head : List ℕ
head = codes "bilbo-certificate 1"

abbrev end : List ℕ
end = codes "end"

-- a leaf
pair_back : (bytes : List ℕ) (pair : ℕ × ℕ) (rest : List ℕ) → pair_at bytes ≡ Some (pair, rest) → Back IsPair pair_words bytes pair rest
unfolding pair_at
pair_back bytes pair rest h =
    let cell = bind_some (front_number field_limit bytes) _ (pair, rest) h in
    let dual = bind_some (front_hex cell.0.1) _ (pair, rest) cell.2 in
    let same = found_same (cell.0.0, dual.0.0) pair dual.0.1 rest dual.2 in
    let one = front_number_back field_limit bytes cell.0.0 cell.0.1 (omega arith) cell.1 in
    let two = front_hex_back cell.0.1 dual.0.0 dual.0.1 dual.1 in
    let made : Back IsPair pair_words bytes (cell.0.0, dual.0.0) dual.0.1 = record { ok = (one.ok, two.ok); is = one.is ∙ ap (λ z. number_word cell.0.0 ++ z) two.is ∙ sym (append_assoc (number_word cell.0.0) (hex_word dual.0.0) dual.0.1) } in
    subst (λ p. Back IsPair pair_words bytes p rest) same.0 (subst (λ r. Back IsPair pair_words bytes (cell.0.0, dual.0.0) r) same.1 made)

pair_again : (pair : ℕ × ℕ) (rest : List ℕ) → IsPair pair → prefix_len is_ascii_digit rest ≡ 0 → pair_at (pair_words pair ++ rest) ≡ Some (pair, rest)
unfolding pair_at
pair_again pair rest h e =
    let cell : front_number field_limit (pair_words pair ++ rest) ≡ Some (pair.0, hex_word pair.1 ++ rest) =
    ap (front_number field_limit) (append_assoc (number_word pair.0) (hex_word pair.1) rest) ∙ front_number_again field_limit pair.0 (hex_word pair.1 ++ rest) h.0 (omega (arith, h.0)) refl in
    rw (cell, front_hex_again pair.1 rest h.1) refl

pair_starts : (pair : ℕ × ℕ) → (tail : List ℕ) × (pair_words pair ≡ 32 ∷ tail)
pair_starts pair = (decimal pair.0 ++ hex_word pair.1, refl)

-- a line of a segment
segment_back : (line : List ℕ) (s : CertificateSegmentValue) → segment_of line ≡ Some s → IsFormedSegment s × (line ≡ segment_line s)
unfolding segment_of
segment_back line s h =
    let from = bind_some (after_mark (codes "segment") line) _ s h in
    let cell = bind_some (front_number field_limit from.0) _ s from.2 in
    let pairs = bind_some (listed_items pair_at 16 cell.0.1) _ s cell.2 in
    let made : CertificateSegmentValue = record { cell = cell.0.0; pairs = pairs.0 } in
    let same : made ≡ s = some_same made s pairs.2 in
    let one = front_number_back field_limit from.0 cell.0.0 cell.0.1 (omega arith) cell.1 in
    let all = items_back pair_at IsPair pair_words pair_back 16 cell.0.1 pairs.0 pairs.1 in
    let fits : IsFormedSegment made = record { cell = one.ok; few = all.few; pairs = all.all } in
    let is : line ≡ segment_line made = mark_back (codes "segment") line from.0 from.1 ∙ ap (λ z. codes "segment" ++ z) (one.is ∙ ap (λ z. number_word cell.0.0 ++ z) all.is) in
    (subst IsFormedSegment same fits, subst (λ t. line ≡ segment_line t) same is)

segment_again : (s : CertificateSegmentValue) → IsFormedSegment s → segment_of (segment_line s) ≡ Some s
unfolding segment_of
segment_again s h =
    let stops : prefix_len is_ascii_digit (flat_map pair_words s.pairs) ≡ 0 = stop s.pairs in
    let cell : front_number field_limit (number_word s.cell ++ flat_map pair_words s.pairs) ≡ Some (s.cell, flat_map pair_words s.pairs) = front_number_again field_limit s.cell (flat_map pair_words s.pairs) h.cell (omega (arith, h.cell)) stops in
    rw (cell, items_again pair_at IsPair pair_words pair_again pair_starts 16 s.pairs h.pairs h.few) refl
  where
    stop : (pairs : List (ℕ × ℕ)) → prefix_len is_ascii_digit (flat_map pair_words pairs) ≡ 0
    stop [] = refl
    stop (p ∷ ps) = refl

-- the lines that lead to a stage
abbrev pub stage_lines : CertificateStage → List (List ℕ)
stage_lines Head = []
stage_lines Period = head ∷ []
stage_lines (Segments c) = head ∷ period_line c.period ∷ map segment_line c.segments
stage_lines (End c) = certificate_lines c

-- what was read fits
abbrev pub StageFits : CertificateStage → Type 0
StageFits Head = Unit {0}
StageFits Period = Unit {0}
StageFits (Segments c) = IsFormedCertificate c
StageFits (End c) = IsFormedCertificate c

abbrev Goes : List (List ℕ) → List ℕ → CertificateStage → Type 0
Goes before line to = (stage_lines to ≡ before ++ line ∷ []) × StageFits to

abbrev with_segment : CertificateValue → CertificateSegmentValue → CertificateValue
with_segment c s = record { period = c.period; segments = c.segments ++ s ∷ [] }

segment_says : (c : CertificateValue) (line : List ℕ) (to : CertificateStage) → IsFormedCertificate c → behind_segment c line ≡ Some to → Goes (stage_lines (Segments c)) line to
unfolding behind_segment
segment_says c line to fits h =
    choice_told (bytes_eq line end) (Some (End c)) _ to (Goes (stage_lines (Segments c)) line to) (λ t e. subst (Goes (stage_lines (Segments c)) line) (some_same (End c) to e) (ap (λ z. head ∷ period_line c.period ∷ (map segment_line c.segments ++ z ∷ [])) (sym (same_bytes line end t)), fits)) (λ f e.
    let s = bind_some (segment_of line) (λ s. Some (Segments (with_segment c s))) to e in
    let back = segment_back line s.0 s.1 in
    let lines : map segment_line (c.segments ++ s.0 ∷ []) ≡ map segment_line c.segments ++ line ∷ [] = map_join segment_line c.segments (s.0 ∷ []) ∙ ap (λ z. map segment_line c.segments ++ z ∷ []) (sym back.1) in
    subst (Goes (stage_lines (Segments c)) line) (some_same (Segments (with_segment c s.0)) to s.2) (ap (λ z. head ∷ period_line c.period ∷ z) lines, record { period = fits.period; segments = all_join IsFormedSegment c.segments (s.0 ∷ []) fits.segments (back.0, tt) })) h

-- a line that leads on is what is written behind the lines before
pub certificate_says : (from to : CertificateStage) (line : List ℕ) → StageFits from → certificate_stage from line ≡ Some to → Goes (stage_lines from) line to
certificate_says Head to line fits h =
    let one = guard_some (bytes_eq line head) (Some Period) to h in
    subst (Goes [] line) (some_same Period to one.1) (ap (λ z. z ∷ []) (sym (same_bytes line head one.0)), tt)
certificate_says Period to line fits h =
    let n = bind_some (marked_number (codes "period") field_limit line) (λ n. Some (Segments (record { period = n; segments = [] }))) to h in
    let number = marked_number_back (codes "period") field_limit line n.0 (omega arith) n.1 in
    subst (Goes (head ∷ []) line) (some_same (Segments (record { period = n.0; segments = [] })) to n.2) (ap (λ z. head ∷ z ∷ []) (sym number.1), record { period = number.0; segments = tt })
certificate_says (Segments c) to line fits h = segment_says c line to fits h
certificate_says (End c) to line fits h = cc h

-- the lines of each stage begin a text
pub certificate_begins : (s : CertificateStage) → StageFits s → (c : CertificateValue) × (others : List (List ℕ)) × IsFormedCertificate c × (stage_lines s ++ others ≡ certificate_lines c)
certificate_begins Head fits = (record { period = 0; segments = [] }, certificate_lines (record { period = 0; segments = [] }), record { period = omega arith; segments = tt }, refl)
certificate_begins Period fits = (record { period = 0; segments = [] }, period_line 0 ∷ end ∷ [], record { period = omega arith; segments = tt }, refl)
certificate_begins (Segments c) fits = (c, end ∷ [], fits, refl)
certificate_begins (End c) fits = (c, [], fits, append-nil (certificate_lines c))

-- the lines of segments lead to their end
behind_one : (c : CertificateValue) (s : CertificateSegmentValue) → IsFormedSegment s → behind_segment c (segment_line s) ≡ Some (Segments (with_segment c s))
unfolding behind_segment
behind_one c s h = ap (λ o. o >>= (λ s. Some (Segments (with_segment c s)))) (segment_again s h)

behind_end : (c : CertificateValue) → behind_segment c end ≡ Some (End c)
unfolding behind_segment
behind_end c = refl

segments_lead : (c : CertificateValue) (segments : List CertificateSegmentValue) → AllByRecursion IsFormedSegment segments → stage_behind certificate_stage (Some (Segments c)) (map segment_line segments ++ end ∷ []) ≡ Some (End (record { period = c.period; segments = c.segments ++ segments }))
segments_lead c [] h = behind_end c ∙ ap (λ z. Some (End (record { period = c.period; segments = z }))) (sym (append-nil c.segments))
segments_lead c (s ∷ segments) h =
    ap (λ o. stage_behind certificate_stage o (map segment_line segments ++ end ∷ [])) (behind_one c s h.0) ∙ segments_lead (with_segment c s) segments h.1 ∙ ap (λ z. Some (End (record { period = c.period; segments = z }))) (append_assoc c.segments (s ∷ []) segments)

period_read : (c : CertificateValue) → IsFormedCertificate c → certificate_stage Period (period_line c.period) ≡ Some (Segments (record { period = c.period; segments = [] }))
period_read c h = ap (λ o. o >>= (λ n. Some (Segments (record { period = n; segments = [] })))) (marked_number_again (codes "period") field_limit c.period h.period (omega (arith, h.period)))

pub certificate_ends : (c : CertificateValue) → IsFormedCertificate c → stage_behind certificate_stage (Some Head) (certificate_lines c) ≡ Some (End c)
certificate_ends c h = ap (λ o. stage_behind certificate_stage o (map segment_line c.segments ++ end ∷ [])) (period_read c h) ∙ segments_lead (record { period = c.period; segments = [] }) c.segments h.segments

-- no line has a line feed
pair_clean : (pair : ℕ × ℕ) → IsPair pair → IsLine (pair_words pair)
pair_clean pair h = clean_join (number_word pair.0) (hex_word pair.1) (number_clean pair.0 (omega (arith, h.0))) (hex_clean pair.1)

segment_clean : (s : CertificateSegmentValue) → IsFormedSegment s → IsLine (segment_line s)
segment_clean s h = clean_join (codes "segment") (number_word s.cell ++ flat_map pair_words s.pairs) refl (clean_join (number_word s.cell) (flat_map pair_words s.pairs) (number_clean s.cell (omega (arith, h.cell))) (clean_parts IsPair pair_words pair_clean s.pairs h.pairs))

segments_clean : (segments : List CertificateSegmentValue) → AllByRecursion IsFormedSegment segments → AllByRecursion IsLine (map segment_line segments)
segments_clean [] h = tt
segments_clean (s ∷ segments) h = (segment_clean s h.0, segments_clean segments h.1)

pub certificate_clean : (c : CertificateValue) → IsFormedCertificate c → AllByRecursion IsLine (certificate_lines c)
certificate_clean c h =
    let period : IsLine (period_line c.period) = clean_join (codes "period") (number_word c.period) refl (number_clean c.period (omega (arith, h.period))) in
    (refl, (period, all_join IsLine (map segment_line c.segments) (end ∷ []) (segments_clean c.segments h.segments) (refl, tt)))

pub end_same : (c d : CertificateValue) → End c ≡ End d → c ≡ d
end_same c d e = cc e

-- what follows a leaf is shorter
pub pair_shorter : (bytes : List ℕ) (pair : ℕ × ℕ) (rest : List ℕ) → pair_at bytes ≡ Some (pair, rest) → length rest < length bytes
pair_shorter bytes pair rest h =
    let back = pair_back bytes pair rest h in
    omega (arith, ap length back.is, length-append (pair_words pair) rest, ap length (pair_starts pair).1)
