-- The text of signatures, read line by line.
use Rattle.std.proofs.Common.{◌≡◌, ℕ, ◌+◌, ◌<◌, ◌≤◌, List, [], ◌∷◌, ◌++◌, length, map, codes, Some, None, true, false, eqb, refl, sym, ap, ◌∙◌, arith, append_assoc, length-append, subst, if◌then◌else◌}
use Rattle.std.specs.List.{AllByRecursion}
use Rattle.std.specs.Str.{bytes_eq}
use Rattle.std.proofs.lemmas.Bool.Decides.{nat_tests}
use Rattle.std.proofs.lemmas.List.{append-nil}
use Rattle.bb_base.proofs.Lists.{all_join, map_join}
use Rattle.bb_spell.specs.Front.{◌>>=◌, begins_with, after_mark}
use Rattle.bb_spell.specs.TextLines.{IsLine}
use Rattle.bb_spell.proofs.Back.{mark_back, end_back, same_bytes, choice_told, some_same}
use Rattle.bb_spell.proofs.Shorter.{bind_some, guard_some}
use Rattle.bb_forms.specs.declared.signature.Signature.{Signature}
use Rattle.bb_forms.specs.declared.signature_reader.SignatureStage.{SignatureStage}
use Rattle.bb_forms.specs.declared.signature_reader.SignatureStage.TheVariants.{Head, First, Within, End}
use Rattle.bb_forms.specs.Fields.{field_limit, number_word, hex_word}
use Rattle.bb_forms.specs.SignatureText.{signature_line, session_head, signed_from, signature_lines, IsSignature, AreFormedSignatures}
use Rattle.bb_forms.specs.Reading.{front_number, front_hex, marked_number, stage_behind}
use Rattle.bb_forms.specs.SignatureStages.{signature_of, behind_signed, within_signed, signature_stage}
use Rattle.bb_forms.proofs.CleanLemmas.{clean_join, number_clean, hex_clean}
use Rattle.bb_forms.proofs.FieldLemmas.{front_number_back, front_number_again, front_hex_back, last_hex, marked_number_back, marked_number_again}

abbrev head : List ℕ
head = codes "bilbo-signatures 1"

abbrev end : List ℕ
end = codes "end"

abbrev Each : List (List Signature) → Type 0
Each sessions = AllByRecursion (AllByRecursion IsSignature) sessions

-- a line of a signature
signature_again : (s : Signature) → IsSignature s → signature_of (signature_line s) ≡ Some s
unfolding signature_of
signature_again s h =
    let register : front_number field_limit (number_word s.register ++ hex_word s.value) ≡ Some (s.register, hex_word s.value) = front_number_again field_limit s.register (hex_word s.value) h.register (omega (arith, h.register)) refl in
    rw (register, last_hex s.value h.value) refl

signature_back : (line : List ℕ) (s : Signature) → signature_of line ≡ Some s → IsSignature s × (line ≡ signature_line s)
unfolding signature_of
signature_back line s h =
    let from = bind_some (after_mark (codes "register") line) _ s h in
    let register = bind_some (front_number field_limit from.0) _ s from.2 in
    let value = bind_some (front_hex register.0.1) _ s register.2 in
    let made : Signature = record { register = register.0.0; value = value.0.0 } in
    let last = end_back made [] value.0.1 s value.2 in
    let one = front_number_back field_limit from.0 register.0.0 register.0.1 (omega arith) register.1 in
    let two = front_hex_back register.0.1 value.0.0 value.0.1 value.1 in
    let fits : IsSignature made = record { register = one.ok; value = two.ok } in
    let is : line ≡ signature_line made =
    mark_back (codes "register") line from.0 from.1 ∙ ap (λ z. codes "register" ++ z) (one.is ∙ ap (λ z. number_word register.0.0 ++ z) (two.is ∙ ap (λ z. hex_word value.0.0 ++ z) last.1 ∙ append-nil (hex_word value.0.0))) in
    (subst IsSignature last.0 fits, subst (λ t. line ≡ signature_line t) last.0 is)

-- the lines that lead to a stage
abbrev pub stage_lines : SignatureStage → List (List ℕ)
stage_lines Head = []
stage_lines First = head ∷ []
stage_lines (Within listing) = head ∷ signed_from 0 (listing.done ++ listing.current ∷ [])
stage_lines (End sessions) = signature_lines sessions

-- what was read fits
abbrev pub StageFits : SignatureStage → Type 0
StageFits Head = Unit {0}
StageFits First = Unit {0}
StageFits (Within listing) = Each listing.done × AllByRecursion IsSignature listing.current × (length listing.done < field_limit)
StageFits (End sessions) = AreFormedSignatures sessions

signed_join : (n : ℕ) (xs ys : List (List Signature)) → signed_from n (xs ++ ys) ≡ signed_from n xs ++ signed_from (n + length xs) ys
signed_join n [] ys = ap (λ m. signed_from m ys) (let e : n ≡ n + 0 = omega arith in e)
signed_join n (x ∷ xs) ys =
    let at : n + 1 + length xs ≡ n + length (x ∷ xs) = omega arith in
    ap (λ z. session_head n ∷ (map signature_line x ++ z)) (signed_join (n + 1) xs ys ∙ ap (λ m. signed_from (n + 1) xs ++ signed_from m ys) at) ∙ ap (λ z. session_head n ∷ z) (sym (append_assoc (map signature_line x) (signed_from (n + 1) xs) (signed_from (n + length (x ∷ xs)) ys)))

-- the lines of sessions and of one more
last_lines : (done : List (List Signature)) (current : List Signature) → signed_from 0 (done ++ current ∷ []) ≡ signed_from 0 done ++ session_head (length done) ∷ map signature_line current
last_lines done current =
    let count : 0 + length done ≡ length done = omega arith in
    signed_join 0 done (current ∷ []) ∙ ap (λ n. signed_from 0 done ++ signed_from n (current ∷ [])) count ∙ ap (λ z. signed_from 0 done ++ session_head (length done) ∷ z) (append-nil (map signature_line current))

abbrev Goes : List (List ℕ) → List ℕ → SignatureStage → Type 0
Goes before line to = (stage_lines to ≡ before ++ line ∷ []) × StageFits to

same_number : (m n : ℕ) → eqb m n ≡ true → m ≡ n
same_number m n h = grind (arith, nat_tests)

behind_back : (done : List (List Signature)) (line : List ℕ) (to : SignatureStage) → Each done → length done ≤ field_limit → behind_signed done line ≡ Some to → Goes (head ∷ signed_from 0 done) line to
unfolding behind_signed
behind_back done line to each few h =
    choice_told (bytes_eq line end) (Some (End done)) _ to (Goes (head ∷ signed_from 0 done) line to) (λ t e. ended t (some_same (End done) to e)) (λ f e. begun e) h
  where
    ended : bytes_eq line end ≡ true → End done ≡ to → Goes (head ∷ signed_from 0 done) line to
    ended t e = subst (Goes (head ∷ signed_from 0 done) line) e (ap (λ z. head ∷ (signed_from 0 done ++ z ∷ [])) (sym (same_bytes line end t)), record { each = each; few = few })

    begun : (marked_number (codes "session") field_limit line >>= (λ n. if eqb n (length done) then Some (Within (record { done = done; current = [] })) else None)) ≡ Some to → Goes (head ∷ signed_from 0 done) line to
    begun e =
        let n = bind_some (marked_number (codes "session") field_limit line) _ to e in
        let one = guard_some (eqb n.0 (length done)) (Some (Within (record { done = done; current = [] }))) to n.2 in
        let number = marked_number_back (codes "session") field_limit line n.0 (omega arith) n.1 in
        let same : n.0 ≡ length done = same_number n.0 (length done) one.0 in
        let is : line ≡ session_head (length done) = number.1 ∙ ap session_head same in
        subst (Goes (head ∷ signed_from 0 done) line) (some_same (Within (record { done = done; current = [] })) to one.1)
        (ap (λ z. head ∷ z) (last_lines done [] ∙ ap (λ z. signed_from 0 done ++ z ∷ []) (sym is)), (each, tt, subst (λ m. m < field_limit) same number.0))

within_back : (done : List (List Signature)) (current : List Signature) (line : List ℕ) (to : SignatureStage) → Each done → AllByRecursion IsSignature current → length done < field_limit → within_signed done current line ≡ Some to → Goes (head ∷ signed_from 0 (done ++ current ∷ [])) line to
unfolding within_signed
within_back done current line to each here few h =
    choice_told (begins_with (codes "register") line) _ (behind_signed (done ++ current ∷ []) line) to (Goes (head ∷ signed_from 0 (done ++ current ∷ [])) line to) (λ t e. signed e)
    (λ f e. behind_back (done ++ current ∷ []) line to (all_join (AllByRecursion IsSignature) done (current ∷ []) each (here, tt)) (omega (arith, few, length-append done (current ∷ []))) e) h
  where
    signed : (signature_of line >>= (λ s. Some (Within (record { done = done; current = current ++ s ∷ [] })))) ≡ Some to → Goes (head ∷ signed_from 0 (done ++ current ∷ [])) line to
    signed e =
        let s = bind_some (signature_of line) _ to e in
        let back = signature_back line s.0 s.1 in
        let lines : signed_from 0 (done ++ (current ++ s.0 ∷ []) ∷ []) ≡ signed_from 0 (done ++ current ∷ []) ++ line ∷ [] =
        last_lines done (current ++ s.0 ∷ []) ∙ ap (λ z. signed_from 0 done ++ session_head (length done) ∷ z) (map_join signature_line current (s.0 ∷ []) ∙ ap (λ z. map signature_line current ++ z ∷ []) (sym back.1))
        ∙ sym (append_assoc (signed_from 0 done) (session_head (length done) ∷ map signature_line current) (line ∷ [])) ∙ ap (λ z. z ++ line ∷ []) (sym (last_lines done current)) in
        subst (Goes (head ∷ signed_from 0 (done ++ current ∷ [])) line) (some_same (Within (record { done = done; current = current ++ s.0 ∷ [] })) to s.2)
        (ap (λ z. head ∷ z) lines, (each, all_join IsSignature current (s.0 ∷ []) here (back.0, tt), few))

-- a line that leads on is what is written behind the lines before
pub signature_says : (from to : SignatureStage) (line : List ℕ) → StageFits from → signature_stage from line ≡ Some to → Goes (stage_lines from) line to
signature_says Head to line fits h =
    let one = guard_some (bytes_eq line head) (Some First) to h in
    subst (Goes [] line) (some_same First to one.1) (ap (λ z. z ∷ []) (sym (same_bytes line head one.0)), tt)
signature_says First to line fits h = behind_back [] line to tt (omega arith) h
signature_says (Within listing) to line fits h = within_back listing.done listing.current line to fits.0 fits.1 fits.2 h
signature_says (End sessions) to line fits h = cc h

-- the lines of each stage begin a text
pub signature_begins : (s : SignatureStage) → StageFits s → (v : List (List Signature)) × (others : List (List ℕ)) × AreFormedSignatures v × (stage_lines s ++ others ≡ signature_lines v)
signature_begins Head fits = ([], head ∷ end ∷ [], record { each = tt; few = omega arith }, refl)
signature_begins First fits = ([], end ∷ [], record { each = tt; few = omega arith }, refl)
signature_begins (Within listing) fits = (
  listing.done ++ listing.current ∷ [],
  end ∷ [],
  record { each = all_join (AllByRecursion IsSignature) listing.done (listing.current ∷ []) fits.0 (fits.1, tt); few = omega (arith, fits.2, length-append listing.done (listing.current ∷ [])) },
  refl,
)
signature_begins (End sessions) fits = (sessions, [], fits, append-nil (signature_lines sessions))

within_one : (done : List (List Signature)) (current : List Signature) (s : Signature) → IsSignature s → within_signed done current (signature_line s) ≡ Some (Within (record { done = done; current = current ++ s ∷ [] }))
unfolding within_signed
within_one done current s fits = ap (λ o. o >>= (λ s. Some (Within (record { done = done; current = current ++ s ∷ [] })))) (signature_again s fits)

within_other : (done : List (List Signature)) (current : List Signature) (line : List ℕ) → begins_with (codes "register") line ≡ false → within_signed done current line ≡ behind_signed (done ++ current ∷ []) line
unfolding within_signed
within_other done current line f = rw f refl

-- the lines of signatures lead to their end
signatures_lead : (done : List (List Signature)) (current xs : List Signature) (more : List (List ℕ)) → AllByRecursion IsSignature xs
    → stage_behind signature_stage (Some (Within (record { done = done; current = current }))) (map signature_line xs ++ more) ≡ stage_behind signature_stage (Some (Within (record { done = done; current = current ++ xs }))) more
signatures_lead done current [] more h = ap (λ z. stage_behind signature_stage (Some (Within (record { done = done; current = z }))) more) (sym (append-nil current))
signatures_lead done current (x ∷ xs) more h =
    ap (λ o. stage_behind signature_stage o (map signature_line xs ++ more)) (within_one done current x h.0) ∙ signatures_lead done (current ++ x ∷ []) xs more h.1 ∙ ap (λ z. stage_behind signature_stage (Some (Within (record { done = done; current = z }))) more) (append_assoc current (x ∷ []) xs)

behind_head : (done : List (List Signature)) → length done < field_limit → behind_signed done (session_head (length done)) ≡ Some (Within (record { done = done; current = [] }))
unfolding behind_signed
behind_head done few =
    let same : eqb (length done) (length done) ≡ true = grind (arith, nat_tests) in
    rw (marked_number_again (codes "session") field_limit (length done) few (omega (arith, few)), same) refl

behind_end : (done : List (List Signature)) → behind_signed done end ≡ Some (End done)
unfolding behind_signed
behind_end done = refl

sessions_lead : (sessions done : List (List Signature)) (stage : SignatureStage) → Each sessions → length done + length sessions ≤ field_limit → ((line : List ℕ) → begins_with (codes "register") line ≡ false → signature_stage stage line ≡ behind_signed done line)
    → stage_behind signature_stage (Some stage) (signed_from (length done) sessions ++ end ∷ []) ≡ Some (End (done ++ sessions))
sessions_lead [] done stage each few is = is end refl ∙ behind_end done ∙ ap (λ z. Some (End z)) (sym (append-nil done))
sessions_lead (s ∷ sessions) done stage each few is =
    let next : List (List Signature) = done ++ s ∷ [] in
    let rest : List (List ℕ) = signed_from (length done + 1) sessions ++ end ∷ [] in
    let count : length done + 1 ≡ length next = sym (length-append done (s ∷ [])) in
    ap (λ z. stage_behind signature_stage (signature_stage stage (session_head (length done))) z) (append_assoc (map signature_line s) (signed_from (length done + 1) sessions) (end ∷ []))
    ∙ ap (λ o. stage_behind signature_stage o (map signature_line s ++ rest)) (is (session_head (length done)) refl ∙ behind_head done (omega arith)) ∙ signatures_lead done [] s rest each.0
    ∙ ap (λ n. stage_behind signature_stage (Some (Within (record { done = done; current = s }))) (signed_from n sessions ++ end ∷ [])) count
    ∙ sessions_lead sessions next (Within (record { done = done; current = s })) each.1 (omega (arith, few, count)) (λ line f. within_other done s line f) ∙ ap (λ z. Some (End z)) (append_assoc done (s ∷ []) sessions)

pub signatures_end : (v : List (List Signature)) → AreFormedSignatures v → stage_behind signature_stage (Some Head) (signature_lines v) ≡ Some (End v)
signatures_end v h = sessions_lead v [] First h.each (omega (arith, h.few)) (λ line f. refl)

-- no line has a line feed
signature_clean : (s : Signature) → IsSignature s → IsLine (signature_line s)
signature_clean s h = clean_join (codes "register") (number_word s.register ++ hex_word s.value) refl (clean_join (number_word s.register) (hex_word s.value) (number_clean s.register (omega (arith, h.register))) (hex_clean s.value))

session_clean : (xs : List Signature) → AllByRecursion IsSignature xs → AllByRecursion IsLine (map signature_line xs)
session_clean [] h = tt
session_clean (x ∷ xs) h = (signature_clean x h.0, session_clean xs h.1)

signed_clean : (n : ℕ) (sessions : List (List Signature)) → Each sessions → n + length sessions ≤ field_limit → AllByRecursion IsLine (signed_from n sessions)
signed_clean n [] each few = tt
signed_clean n (s ∷ sessions) each few = (clean_join (codes "session") (number_word n) refl (number_clean n (omega arith)), all_join IsLine (map signature_line s) (signed_from (n + 1) sessions) (session_clean s each.0) (signed_clean (n + 1) sessions each.1 (omega arith)))

pub signatures_clean : (v : List (List Signature)) → AreFormedSignatures v → AllByRecursion IsLine (signature_lines v)
signatures_clean v h = (refl, all_join IsLine (signed_from 0 v) (end ∷ []) (signed_clean 0 v h.each (omega (arith, h.few))) (refl, tt))

pub end_same : (v w : List (List Signature)) → End v ≡ End w → v ≡ w
end_same v w e = cc e
