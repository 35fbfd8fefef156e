-- The text of a plan, read line by line.
use Rattle.std.proofs.Common.{◌≡◌, ℕ, ◌+◌, ◌*◌, ◌<◌, ◌≤◌, ◌^◌, List, [], ◌∷◌, ◌++◌, length, map, codes, decimal, Option, Some, None, true, false, eqb, nat_lt, refl, sym, ap, ◌∙◌, arith, append_assoc, length-append, subst, if◌then◌else◌}
use Rattle.std.specs.List.{AllByRecursion, flat_map, prefix_len}
use Rattle.std.specs.Char.{is_ascii_digit}
use Rattle.std.specs.Str.{bytes_eq}
use Rattle.std.proofs.lemmas.Bool.Decides.{nat_tests}
use Rattle.std.proofs.lemmas.List.{append-nil, take-append-drop}
use Rattle.std.proofs.lemmas.List.Concat.{flat_map-append}
use Rattle.bb_base.proofs.Lists.{all_join, map_join}
use Rattle.bb_base.specs.Words.{is_word_byte}
use Rattle.bb_terms.specs.declared.kind.Kind.{Kind}
use Rattle.bb_terms.specs.declared.kind.Kind.TheVariants.{Input, State, Split, Cut, Watch, Output}
use Rattle.bb_terms.specs.declared.plan.Cell.{Cell}
use Rattle.bb_terms.specs.Plan.{RegisterValue, PlanValue}
use Rattle.bb_spell.specs.Front.{◌>>=◌, begins_with, after_mark, word_of, after_word}
use Rattle.bb_spell.specs.TextLines.{IsLine}
use Rattle.bb_spell.proofs.Again.{front_join, back_join, pass_from_all}
use Rattle.bb_spell.proofs.Back.{Back, IsBelow, mark_back, end_back, same_bytes, choice_told, some_same}
use Rattle.bb_spell.proofs.Shorter.{bind_some, guard_some, unless_some}
use Rattle.bb_forms.specs.declared.schedule_reader.ScheduleStage.{ScheduleStage}
use Rattle.bb_forms.specs.declared.schedule_reader.ScheduleStage.TheVariants.{Head, Width, Degree, Mask, Registers, Cells, Sessions, Cycles, End}
use Rattle.bb_forms.specs.ScheduleText.{kind_word, cell_line, register_head, register_lines, session_line, width_line, degree_line, mask_line, test_cycles, cycles_line, frame_lines, schedule_lines, IsFormedCell, IsFormedRegister, IsFormedPlan}
use Rattle.bb_forms.specs.ScheduleStages.{worded_kind, cell_of, session_of, with_session, with_register, with_cell, without_registers, if_few, behind_session, behind_register, behind_cell, schedule_stage, IsShort}
use Rattle.bb_forms.specs.Fields.{field_limit, number_word, hex_word}
use Rattle.bb_forms.specs.Reading.{front_number, front_hex, marked_number, marked_hex, listed_items, stage_behind}
use Rattle.bb_forms.proofs.CleanLemmas.{clean_join, clean_parts, number_clean, hex_clean}
use Rattle.bb_forms.proofs.FieldLemmas.{mark_again, front_number_back, front_number_again, front_hex_back, last_hex, marked_number_back, marked_number_again, marked_hex_back, marked_hex_again}
use Rattle.bb_forms.proofs.ItemLemmas.{items_back, items_again, items_few}

abbrev head : List ℕ
head = codes "bilbo-schedule 1"

abbrev end : List ℕ
end = codes "end"

abbrev Numbers : List ℕ → Type 0
Numbers session = AllByRecursion (IsBelow field_limit) session

-- kinds
kind_again : (kind : Kind) → worded_kind (kind_word kind) ≡ Some kind
unfolding worded_kind
kind_again Input = refl
kind_again State = refl
kind_again Split = refl
kind_again Cut = refl
kind_again Watch = refl
kind_again Output = refl

kind_back : (word : List ℕ) (kind : Kind) → worded_kind word ≡ Some kind → word ≡ kind_word kind
unfolding worded_kind
kind_back word kind h =
    choice_told (bytes_eq word (codes "output")) _ _ kind (word ≡ kind_word kind) (λ t e. told Output t e) (λ f e.
    choice_told (bytes_eq word (codes "input")) _ _ kind (word ≡ kind_word kind) (λ t e. told Input t e) (λ f e.
    choice_told (bytes_eq word (codes "state")) _ _ kind (word ≡ kind_word kind) (λ t e. told State t e) (λ f e.
    choice_told (bytes_eq word (codes "split")) _ _ kind (word ≡ kind_word kind) (λ t e. told Split t e) (λ f e.
    choice_told (bytes_eq word (codes "watch")) _ _ kind (word ≡ kind_word kind) (λ t e. told Watch t e) (λ f e.
    choice_told (bytes_eq word (codes "cut")) _ _ kind (word ≡ kind_word kind) (λ t e. told Cut t e) (λ f e. cc e) e) e) e) e) e) h
  where
    told : (k : Kind) → bytes_eq word (kind_word k) ≡ true → Some k ≡ Some kind → word ≡ kind_word kind
    told k t e = same_bytes word (kind_word k) t ∙ ap kind_word (some_same k kind e)

kind_passes : (kind : Kind) → AllByRecursion (λ b. is_word_byte b ≡ true) (kind_word kind)
kind_passes Input = pass_from_all is_word_byte (codes "input") refl
kind_passes State = pass_from_all is_word_byte (codes "state") refl
kind_passes Split = pass_from_all is_word_byte (codes "split") refl
kind_passes Cut = pass_from_all is_word_byte (codes "cut") refl
kind_passes Watch = pass_from_all is_word_byte (codes "watch") refl
kind_passes Output = pass_from_all is_word_byte (codes "output") refl

-- a line of a cell
cell_again : (c : Cell) → IsFormedCell c → cell_of (cell_line c) ≡ Some c
unfolding cell_of
cell_again c h =
    let rest : List ℕ = number_word c.net ++ hex_word c.column in
    let word : word_of (kind_word c.kind ++ rest) ≡ kind_word c.kind = front_join is_word_byte (kind_word c.kind) rest (kind_passes c.kind) refl in
    let behind : after_word (kind_word c.kind ++ rest) ≡ rest = back_join is_word_byte (kind_word c.kind) rest (kind_passes c.kind) refl in
    let net : front_number field_limit rest ≡ Some (c.net, hex_word c.column) = front_number_again field_limit c.net (hex_word c.column) h.net (omega (arith, h.net)) refl in
    rw (word, behind, kind_again c.kind, net, last_hex c.column h.column) refl

cell_back : (line : List ℕ) (c : Cell) → cell_of line ≡ Some c → IsFormedCell c × (line ≡ cell_line c)
unfolding cell_of
cell_back line c h =
    let from = bind_some (after_mark (codes "cell ") line) _ c h in
    let kind = bind_some (worded_kind (word_of from.0)) _ c from.2 in
    let net = bind_some (front_number field_limit (after_word from.0)) _ c kind.2 in
    let column = bind_some (front_hex net.0.1) _ c net.2 in
    let made : Cell = record { kind = kind.0; net = net.0.0; column = column.0.0 } in
    let last = end_back made [] column.0.1 c column.2 in
    let one = front_number_back field_limit (after_word from.0) net.0.0 net.0.1 (omega arith) net.1 in
    let two = front_hex_back net.0.1 column.0.0 column.0.1 column.1 in
    let fits : IsFormedCell made = record { net = one.ok; column = two.ok } in
    let parts : from.0 ≡ word_of from.0 ++ after_word from.0 = sym (take-append-drop (prefix_len is_word_byte from.0) from.0) in
    let words : from.0 ≡ kind_word kind.0 ++ (number_word net.0.0 ++ hex_word column.0.0) =
    parts ∙ (λ i. kind_back (word_of from.0) kind.0 kind.1 i ++ one.is i) ∙ ap (λ z. kind_word kind.0 ++ (number_word net.0.0 ++ z)) (two.is ∙ ap (λ z. hex_word column.0.0 ++ z) last.1 ∙ append-nil (hex_word column.0.0)) in
    let is : line ≡ cell_line made = mark_back (codes "cell ") line from.0 from.1 ∙ ap (λ z. codes "cell " ++ z) words in
    (subst IsFormedCell last.0 fits, subst (λ d. line ≡ cell_line d) last.0 is)

-- a line of a session
number_starts : (n : ℕ) → (tail : List ℕ) × (number_word n ≡ 32 ∷ tail)
number_starts n = (decimal n, refl)

number_back : (bytes : List ℕ) (n : ℕ) (rest : List ℕ) → front_number field_limit bytes ≡ Some (n, rest) → Back (IsBelow field_limit) number_word bytes n rest
number_back bytes n rest h = front_number_back field_limit bytes n rest (omega arith) h

number_again : (n : ℕ) (rest : List ℕ) → IsBelow field_limit n → prefix_len is_ascii_digit rest ≡ 0 → front_number field_limit (number_word n ++ rest) ≡ Some (n, rest)
number_again n rest h e = front_number_again field_limit n rest h (omega (arith, h)) e

session_again : (session : List ℕ) → Numbers session → session_of (session_line session) ≡ Some session
unfolding session_of
session_again session h =
    let words : List ℕ = flat_map number_word session in
    ap (λ o. o >>= (λ from. listed_items (front_number field_limit) (length from) from)) (mark_again (codes "session") words)
    ∙ items_again (front_number field_limit) (IsBelow field_limit) number_word number_again number_starts (length words) session h (items_few (front_number field_limit) (IsBelow field_limit) number_word number_starts session)

session_back : (line session : List ℕ) → session_of line ≡ Some session → Numbers session × (line ≡ session_line session)
unfolding session_of
session_back line session h =
    let from = bind_some (after_mark (codes "session") line) _ session h in
    let all = items_back (front_number field_limit) (IsBelow field_limit) number_word number_back (length from.0) from.0 session from.2 in
    (all.all, mark_back (codes "session") line from.0 from.1 ∙ ap (λ z. codes "session" ++ z) all.is)

-- the lines that lead to a stage
abbrev before_sessions : PlanValue → List (List ℕ)
before_sessions p = frame_lines p ++ flat_map register_lines p.registers

abbrev before_cycles : PlanValue → List (List ℕ)
before_cycles p = before_sessions p ++ map session_line p.sessions

abbrev pub stage_lines : ScheduleStage → List (List ℕ)
stage_lines Head = []
stage_lines Width = head ∷ []
stage_lines (Degree width) = head ∷ width_line width ∷ []
stage_lines (Mask width degree) = head ∷ width_line width ∷ degree_line degree ∷ []
stage_lines (Registers p) = before_sessions p
stage_lines (Cells p g) = before_sessions (with_register p g)
stage_lines (Sessions p) = before_cycles p
stage_lines (Cycles p) = before_cycles p ++ cycles_line (test_cycles p) ∷ []
stage_lines (End p) = schedule_lines p

-- what was read fits
abbrev pub StageFits : ScheduleStage → Type 0
StageFits Head = Unit {0}
StageFits Width = Unit {0}
StageFits (Degree width) = width < field_limit
StageFits (Mask width degree) = (width < field_limit) × (1 ≤ degree) × (degree ≤ 20)
StageFits (Registers p) = IsFormedPlan p × (p.sessions ≡ [])
StageFits (Cells p g) = IsFormedPlan p × IsFormedRegister g × (p.sessions ≡ [])
StageFits (Sessions p) = IsFormedPlan p
StageFits (Cycles p) = IsFormedPlan p
StageFits (End p) = IsFormedPlan p

pub fits_short : (stage : ScheduleStage) → StageFits stage → IsShort stage
fits_short Head h = tt
fits_short Width h = tt
fits_short (Degree width) h = tt
fits_short (Mask width degree) h = h.2
fits_short (Registers p) h = h.0.most
fits_short (Cells p g) h = h.0.most
fits_short (Sessions p) h = h.most
fits_short (Cycles p) h = h.most
fits_short (End p) h = h.most

abbrev Goes : List (List ℕ) → List ℕ → ScheduleStage → Type 0
Goes before line to = (stage_lines to ≡ before ++ line ∷ []) × StageFits to

few_cycles : (p : PlanValue) → p.sessions ≡ [] → test_cycles p < 2 ^ 64
few_cycles p e = subst (λ sessions. 1 + 2 * length sessions * 2 ^ p.degree < 2 ^ 64) (sym e) (omega arith)

-- behind sessions
session_fits : (p : PlanValue) (session : List ℕ) → IsFormedPlan p → Numbers session → test_cycles (with_session p session) < 2 ^ 64 → IsFormedPlan (with_session p session)
session_fits p session fits h few = record {
  width = fits.width;
  least = fits.least;
  most = fits.most;
  mask = fits.mask;
  registers = fits.registers;
  sessions = all_join Numbers p.sessions (session ∷ []) fits.sessions (h, tt);
  cycles = few;
}

less_back : (m n : ℕ) → nat_lt m n ≡ true → m < n
less_back m n h = grind (arith, nat_tests)

same_number : (m n : ℕ) → eqb m n ≡ true → m ≡ n
same_number m n h = grind (arith, nat_tests)

more_sessions : (p : PlanValue) (session line : List ℕ) → line ≡ session_line session → before_cycles (with_session p session) ≡ before_cycles p ++ line ∷ []
more_sessions p session line is =
    ap (λ z. before_sessions p ++ z) (map_join session_line p.sessions (session ∷ []) ∙ ap (λ z. map session_line p.sessions ++ z ∷ []) (sym is)) ∙ sym (append_assoc (before_sessions p) (map session_line p.sessions) (line ∷ []))

session_says : (p : PlanValue) (line : List ℕ) (to : ScheduleStage) → IsFormedPlan p → behind_session p line ≡ Some to → Goes (before_cycles p) line to
unfolding behind_session
session_says p line to fits h = choice_told (begins_with (codes "session") line) _ _ to (Goes (before_cycles p) line to) (λ t e. one e) (λ f e. last e) h
  where
    one : (session_of line >>= (λ session. if_few (with_session p session))) ≡ Some to → Goes (before_cycles p) line to
    one e =
        let s = bind_some (session_of line) (λ session. if_few (with_session p session)) to e in
        let back = session_back line s.0 s.1 in
        let few = guard_some (nat_lt (test_cycles (with_session p s.0)) (2 ^ 64)) (Some (Sessions (with_session p s.0))) to s.2 in
        subst (Goes (before_cycles p) line) (some_same (Sessions (with_session p s.0)) to few.1) (more_sessions p s.0 line back.1, session_fits p s.0 fits back.0 (less_back (test_cycles (with_session p s.0)) (2 ^ 64) few.0))

    last : (marked_number (codes "cycles") (2 ^ 64) line >>= (λ n. if eqb n (test_cycles p) then Some (Cycles p) else None)) ≡ Some to → Goes (before_cycles p) line to
    last e =
        let n = bind_some (marked_number (codes "cycles") (2 ^ 64) line) (λ n. if eqb n (test_cycles p) then Some (Cycles p) else None) to e in
        let told = guard_some (eqb n.0 (test_cycles p)) (Some (Cycles p)) to n.2 in
        let number = marked_number_back (codes "cycles") (2 ^ 64) line n.0 (omega arith) n.1 in
        subst (Goes (before_cycles p) line) (some_same (Cycles p) to told.1) (ap (λ z. before_cycles p ++ z ∷ []) (ap cycles_line (sym (same_number n.0 (test_cycles p) told.0)) ∙ sym number.1), fits)

no_sessions : (p : PlanValue) → p.sessions ≡ [] → before_cycles p ≡ before_sessions p
no_sessions p e = ap (λ s. before_sessions p ++ map session_line s) e ∙ append-nil (before_sessions p)

-- behind registers
register_fits : (p : PlanValue) (g : RegisterValue) → IsFormedPlan p → IsFormedRegister g → IsFormedPlan (with_register p g)
register_fits p g fits h = record {
  width = fits.width;
  least = fits.least;
  most = fits.most;
  mask = fits.mask;
  registers = all_join IsFormedRegister p.registers (g ∷ []) fits.registers (h, tt);
  sessions = fits.sessions;
  cycles = fits.cycles;
}

more_registers : (p : PlanValue) (g : RegisterValue) → before_sessions (with_register p g) ≡ before_sessions p ++ register_lines g
more_registers p g =
    ap (λ z. frame_lines p ++ z) (flat_map-append register_lines p.registers (g ∷ []) ∙ ap (λ z. flat_map register_lines p.registers ++ z) (append-nil (register_lines g))) ∙ sym (append_assoc (frame_lines p) (flat_map register_lines p.registers) (register_lines g))

register_says : (p : PlanValue) (line : List ℕ) (to : ScheduleStage) → IsFormedPlan p → p.sessions ≡ [] → behind_register p line ≡ Some to → Goes (before_sessions p) line to
unfolding behind_register
register_says p line to fits none h =
    choice_told (begins_with (codes "register") line) _ (behind_session p line) to (Goes (before_sessions p) line to) (λ t e. one e) (λ f e. subst (λ before. Goes before line to) (no_sessions p none) (session_says p line to fits e)) h
  where
    one : (marked_hex (codes "register") line >>= (λ mask. Some (Cells p (record { mask = mask; cells = [] })))) ≡ Some to → Goes (before_sessions p) line to
    one e =
        let mask = bind_some (marked_hex (codes "register") line) (λ mask. Some (Cells p (record { mask = mask; cells = [] }))) to e in
        let back = marked_hex_back (codes "register") line mask.0 mask.1 in
        let empty : RegisterValue = record { mask = mask.0; cells = [] } in
        subst (Goes (before_sessions p) line) (some_same (Cells p empty) to mask.2) (more_registers p empty ∙ ap (λ z. before_sessions p ++ z ∷ []) (sym back.1), (fits, record { mask = back.0; cells = tt }, none))

cell_says : (p : PlanValue) (g : RegisterValue) (line : List ℕ) (to : ScheduleStage) → IsFormedPlan p → IsFormedRegister g → p.sessions ≡ [] → behind_cell p g line ≡ Some to → Goes (before_sessions (with_register p g)) line to
unfolding behind_cell
cell_says p g line to fits here none h =
    choice_told (begins_with (codes "cell") line) _ (behind_register (with_register p g) line) to (Goes (before_sessions (with_register p g)) line to) (λ t e. one e) (λ f e. register_says (with_register p g) line to (register_fits p g fits here) none e) h
  where
    one : (cell_of line >>= (λ c. Some (Cells p (with_cell g c)))) ≡ Some to → Goes (before_sessions (with_register p g)) line to
    one e =
        let c = bind_some (cell_of line) (λ c. Some (Cells p (with_cell g c))) to e in
        let back = cell_back line c.0 c.1 in
        let lines : register_lines (with_cell g c.0) ≡ register_lines g ++ line ∷ [] = ap (λ z. register_head g.mask ∷ z) (map_join cell_line g.cells (c.0 ∷ []) ∙ ap (λ z. map cell_line g.cells ++ z ∷ []) (sym back.1)) in
        let all : before_sessions (with_register p (with_cell g c.0)) ≡ before_sessions (with_register p g) ++ line ∷ [] =
        more_registers p (with_cell g c.0) ∙ ap (λ z. before_sessions p ++ z) lines ∙ sym (append_assoc (before_sessions p) (register_lines g) (line ∷ [])) ∙ ap (λ z. z ++ line ∷ []) (sym (more_registers p g)) in
        subst (Goes (before_sessions (with_register p g)) line) (some_same (Cells p (with_cell g c.0)) to c.2) (all, (fits, record { mask = here.mask; cells = all_join IsFormedCell g.cells (c.0 ∷ []) here.cells (back.0, tt) }, none))

-- the whole text in two parts
to_cycles : (p : PlanValue) → before_cycles p ++ (cycles_line (test_cycles p) ∷ end ∷ []) ≡ schedule_lines p
to_cycles p =
    let last : List (List ℕ) = cycles_line (test_cycles p) ∷ end ∷ [] in
    append_assoc (before_sessions p) (map session_line p.sessions) last ∙ append_assoc (frame_lines p) (flat_map register_lines p.registers) (map session_line p.sessions ++ last)

to_end : (p : PlanValue) → (before_cycles p ++ cycles_line (test_cycles p) ∷ []) ++ end ∷ [] ≡ schedule_lines p
to_end p = append_assoc (before_cycles p) (cycles_line (test_cycles p) ∷ []) (end ∷ []) ∙ to_cycles p

not_zero : (n : ℕ) → eqb n 0 ≡ false → 1 ≤ n
not_zero n h = grind (arith, nat_tests)

-- a line that leads on is what is written behind the lines before
pub schedule_says : (from to : ScheduleStage) (line : List ℕ) → StageFits from → schedule_stage from line ≡ Some to → Goes (stage_lines from) line to
schedule_says Head to line fits h =
    let one = guard_some (bytes_eq line head) (Some Width) to h in
    subst (Goes [] line) (some_same Width to one.1) (ap (λ z. z ∷ []) (sym (same_bytes line head one.0)), tt)
schedule_says Width to line fits h =
    let n = bind_some (marked_number (codes "width") field_limit line) (λ n. Some (Degree n)) to h in
    let back = marked_number_back (codes "width") field_limit line n.0 (omega arith) n.1 in
    subst (Goes (head ∷ []) line) (some_same (Degree n.0) to n.2) (ap (λ z. head ∷ z ∷ []) (sym back.1), back.0)
schedule_says (Degree width) to line fits h =
    let n = bind_some (marked_number (codes "degree") 21 line) (λ n. if eqb n 0 then None else Some (Mask width n)) to h in
    let some = unless_some (eqb n.0 0) (Some (Mask width n.0)) to n.2 in
    let back = marked_number_back (codes "degree") 21 line n.0 (omega arith) n.1 in
    subst (Goes (head ∷ width_line width ∷ []) line) (some_same (Mask width n.0) to some.1) (ap (λ z. head ∷ width_line width ∷ z ∷ []) (sym back.1), (fits, not_zero n.0 some.0, omega (arith, back.0)))
schedule_says (Mask width degree) to line fits h =
    let n = bind_some (marked_hex (codes "mask") line) (λ n. Some (Registers (without_registers width degree n))) to h in
    let back = marked_hex_back (codes "mask") line n.0 n.1 in
    let formed : IsFormedPlan (without_registers width degree n.0) = record { width = fits.0; least = fits.1; most = fits.2; mask = back.0; registers = tt; sessions = tt; cycles = few_cycles (without_registers width degree n.0) refl } in
    subst (Goes (head ∷ width_line width ∷ degree_line degree ∷ []) line) (some_same (Registers (without_registers width degree n.0)) to n.2) (ap (λ z. head ∷ width_line width ∷ degree_line degree ∷ z ∷ []) (sym back.1), (formed, refl))
schedule_says (Registers p) to line fits h = register_says p line to fits.0 fits.1 h
schedule_says (Cells p g) to line fits h = cell_says p g line to fits.0 fits.1 fits.2 h
schedule_says (Sessions p) to line fits h = session_says p line to fits h
schedule_says (Cycles p) to line fits h =
    let one = guard_some (bytes_eq line end) (Some (End p)) to h in
    subst (Goes (before_cycles p ++ cycles_line (test_cycles p) ∷ []) line) (some_same (End p) to one.1) (sym (to_end p) ∙ ap (λ z. (before_cycles p ++ cycles_line (test_cycles p) ∷ []) ++ z ∷ []) (sym (same_bytes line end one.0)), fits)
schedule_says (End p) to line fits h = cc h

-- the lines of each stage begin a text
least_fits : (width degree : ℕ) → width < field_limit → 1 ≤ degree → degree ≤ 20 → IsFormedPlan (without_registers width degree 0)
least_fits width degree w l m = record { width = w; least = l; most = m; mask = omega arith; registers = tt; sessions = tt; cycles = few_cycles (without_registers width degree 0) refl }

pub schedule_begins : (s : ScheduleStage) → StageFits s → (p : PlanValue) × (others : List (List ℕ)) × IsFormedPlan p × (stage_lines s ++ others ≡ schedule_lines p)
schedule_begins Head h = let p : PlanValue = without_registers 0 1 0 in (p, schedule_lines p, least_fits 0 1 (omega arith) (omega arith) (omega arith), refl)
schedule_begins Width h = let p : PlanValue = without_registers 0 1 0 in (p, width_line 0 ∷ degree_line 1 ∷ mask_line 0 ∷ cycles_line (test_cycles p) ∷ end ∷ [], least_fits 0 1 (omega arith) (omega arith) (omega arith), refl)
schedule_begins (Degree width) h = let p : PlanValue = without_registers width 1 0 in (p, degree_line 1 ∷ mask_line 0 ∷ cycles_line (test_cycles p) ∷ end ∷ [], least_fits width 1 h (omega arith) (omega arith), refl)
schedule_begins (Mask width degree) h = let p : PlanValue = without_registers width degree 0 in (p, mask_line 0 ∷ cycles_line (test_cycles p) ∷ end ∷ [], least_fits width degree h.0 h.1 h.2, refl)
schedule_begins (Registers p) h = (p, cycles_line (test_cycles p) ∷ end ∷ [], h.0, ap (λ z. z ++ (cycles_line (test_cycles p) ∷ end ∷ [])) (sym (no_sessions p h.1)) ∙ to_cycles p)
schedule_begins (Cells p g) h =
    let q : PlanValue = with_register p g in
    (q, cycles_line (test_cycles q) ∷ end ∷ [], register_fits p g h.0 h.1, ap (λ z. z ++ (cycles_line (test_cycles q) ∷ end ∷ [])) (sym (no_sessions q h.2)) ∙ to_cycles q)
schedule_begins (Sessions p) h = (p, cycles_line (test_cycles p) ∷ end ∷ [], h, to_cycles p)
schedule_begins (Cycles p) h = (p, end ∷ [], h, to_end p)
schedule_begins (End p) h = (p, [], h, append-nil (schedule_lines p))

behind_read : (p : PlanValue) (g : RegisterValue) (c : Cell) → IsFormedCell c → behind_cell p g (cell_line c) ≡ Some (Cells p (with_cell g c))
unfolding behind_cell
behind_read p g c fits = ap (λ o. o >>= (λ c. Some (Cells p (with_cell g c)))) (cell_again c fits)

behind_whole : (p : PlanValue) (g : RegisterValue) (line : List ℕ) → begins_with (codes "cell") line ≡ false → behind_cell p g line ≡ behind_register (with_register p g) line
unfolding behind_cell
behind_whole p g line f = rw f refl

behind_others : (p : PlanValue) (line : List ℕ) → begins_with (codes "register") line ≡ false → behind_register p line ≡ behind_session p line
unfolding behind_register
behind_others p line k = rw k refl

-- the lines of a register lead to it
cells_lead : (p : PlanValue) (g : RegisterValue) (cells : List Cell) (more : List (List ℕ)) → AllByRecursion IsFormedCell cells → stage_behind schedule_stage (Some (Cells p g)) (map cell_line cells ++ more) ≡ stage_behind schedule_stage (Some (Cells p (record { mask = g.mask; cells = g.cells ++ cells }))) more
cells_lead p g [] more h = ap (λ z. stage_behind schedule_stage (Some (Cells p (record { mask = g.mask; cells = z }))) more) (sym (append-nil g.cells))
cells_lead p g (c ∷ cells) more h =
    ap (λ o. stage_behind schedule_stage o (map cell_line cells ++ more)) (behind_read p g c h.0) ∙ cells_lead p (with_cell g c) cells more h.1 ∙ ap (λ z. stage_behind schedule_stage (Some (Cells p (record { mask = g.mask; cells = z }))) more) (append_assoc g.cells (c ∷ []) cells)

-- what may come behind registers is told by the registers alone
abbrev MayFollow : ScheduleStage → PlanValue → Type 0
MayFollow stage p = (line : List ℕ) → begins_with (codes "cell") line ≡ false → schedule_stage stage line ≡ behind_register p line

abbrev with_registers : PlanValue → List RegisterValue → PlanValue
with_registers p registers = record { width = p.width; degree = p.degree; mask = p.mask; registers = p.registers ++ registers; sessions = p.sessions }

behind_mask : (p : PlanValue) (mask : ℕ) → mask < field_limit → behind_register p (register_head mask) ≡ Some (Cells p (record { mask = mask; cells = [] }))
unfolding behind_register
behind_mask p mask h = ap (λ o. o >>= (λ mask. Some (Cells p (record { mask = mask; cells = [] })))) (marked_hex_again (codes "register") mask h)

registers_lead : (registers : List RegisterValue) (p : PlanValue) (stage : ScheduleStage) (more : List (List ℕ)) (all : Option ScheduleStage) → AllByRecursion IsFormedRegister registers → MayFollow stage p
    → ((next : ScheduleStage) → MayFollow next (with_registers p registers) → stage_behind schedule_stage (Some next) more ≡ all) → stage_behind schedule_stage (Some stage) (flat_map register_lines registers ++ more) ≡ all
registers_lead [] p stage more all h may rest = rest stage (subst (λ registers. MayFollow stage (record { width = p.width; degree = p.degree; mask = p.mask; registers = registers; sessions = p.sessions })) (sym (append-nil p.registers)) may)
registers_lead (g ∷ registers) p stage more all h may rest =
    let others : List (List ℕ) = flat_map register_lines registers ++ more in
    ap (λ z. stage_behind schedule_stage (schedule_stage stage (register_head g.mask)) z) (append_assoc (map cell_line g.cells) (flat_map register_lines registers) more)
    ∙ ap (λ o. stage_behind schedule_stage o (map cell_line g.cells ++ others)) (may (register_head g.mask) refl ∙ behind_mask p g.mask h.0.mask) ∙ cells_lead p (record { mask = g.mask; cells = [] }) g.cells others h.0.cells
    ∙ registers_lead registers (with_register p g) (Cells p g) more all h.1 (λ line f. behind_whole p g line f) (λ next follows. rest next (subst (λ registers. MayFollow next (record { width = p.width; degree = p.degree; mask = p.mask; registers = registers; sessions = p.sessions })) (append_assoc p.registers (g ∷ []) registers) follows))

-- the lines of sessions lead to the end
abbrev MaySession : ScheduleStage → PlanValue → Type 0
MaySession stage p = (line : List ℕ) → begins_with (codes "cell") line ≡ false → begins_with (codes "register") line ≡ false → schedule_stage stage line ≡ behind_session p line

follows_session : (stage : ScheduleStage) (p : PlanValue) → MayFollow stage p → MaySession stage p
follows_session stage p may line f k = may line f ∙ behind_others p line k

abbrev with_sessions : PlanValue → List (List ℕ) → PlanValue
with_sessions p sessions = record { width = p.width; degree = p.degree; mask = p.mask; registers = p.registers; sessions = p.sessions ++ sessions }

less_true : (m n : ℕ) → m < n → nat_lt m n ≡ true
less_true m n h = grind (arith, nat_tests)

same_true : (n : ℕ) → eqb n n ≡ true
same_true n = grind (arith, nat_tests)

behind_one : (p : PlanValue) (session : List ℕ) → Numbers session → test_cycles (with_session p session) < 2 ^ 64 → behind_session p (session_line session) ≡ Some (Sessions (with_session p session))
unfolding behind_session
behind_one p session h few = ap (λ o. o >>= (λ session. if_few (with_session p session))) (session_again session h) ∙ ap (λ b. if b then Some (Sessions (with_session p session)) else None) (less_true (test_cycles (with_session p session)) (2 ^ 64) few)

behind_all : (p : PlanValue) → test_cycles p < 2 ^ 64 → behind_session p (cycles_line (test_cycles p)) ≡ Some (Cycles p)
unfolding behind_session
behind_all p few = ap (λ o. o >>= (λ n. if eqb n (test_cycles p) then Some (Cycles p) else None)) (marked_number_again (codes "cycles") (2 ^ 64) (test_cycles p) few few) ∙ ap (λ b. if b then Some (Cycles p) else None) (same_true (test_cycles p))

fewer : (a b x n : ℕ) → 1 + 2 * (a + b) * x < n → 1 + 2 * a * x < n
fewer a b x n h = grind arith

sessions_lead : (sessions : List (List ℕ)) (p : PlanValue) (stage : ScheduleStage) → AllByRecursion Numbers sessions → test_cycles (with_sessions p sessions) < 2 ^ 64 → MaySession stage p
    → stage_behind schedule_stage (Some stage) (map session_line sessions ++ cycles_line (test_cycles (with_sessions p sessions)) ∷ end ∷ []) ≡ Some (End (with_sessions p sessions))
sessions_lead [] p stage h few may =
    let here : List (List ℕ) → PlanValue = λ sessions. record { width = p.width; degree = p.degree; mask = p.mask; registers = p.registers; sessions = sessions } in
    subst (λ sessions. test_cycles (here sessions) < 2 ^ 64 → stage_behind schedule_stage (Some stage) (cycles_line (test_cycles (here sessions)) ∷ end ∷ []) ≡ Some (End (here sessions))) (sym (append-nil p.sessions))
    (λ small. ap (λ o. stage_behind schedule_stage o (end ∷ [])) (may (cycles_line (test_cycles p)) refl refl ∙ behind_all p small)) few
sessions_lead (s ∷ sessions) p stage h few may =
    let here : List (List ℕ) → PlanValue = λ sessions. record { width = p.width; degree = p.degree; mask = p.mask; registers = p.registers; sessions = sessions } in
    let joined : (p.sessions ++ s ∷ []) ++ sessions ≡ p.sessions ++ s ∷ sessions = append_assoc p.sessions (s ∷ []) sessions in
    let all_few : test_cycles (with_sessions (with_session p s) sessions) < 2 ^ 64 = subst (λ all. test_cycles (here all) < 2 ^ 64) (sym joined) few in
    let one_few : test_cycles (with_session p s) < 2 ^ 64 = fewer (length (p.sessions ++ s ∷ [])) (length sessions) (2 ^ p.degree) (2 ^ 64) (subst (λ n. 1 + 2 * n * 2 ^ p.degree < 2 ^ 64) (length-append (p.sessions ++ s ∷ []) sessions) all_few) in
    subst (λ all. stage_behind schedule_stage (Some stage) (session_line s ∷ (map session_line sessions ++ cycles_line (test_cycles (here all)) ∷ end ∷ [])) ≡ Some (End (here all))) joined
    (ap (λ o. stage_behind schedule_stage o (map session_line sessions ++ cycles_line (test_cycles (with_sessions (with_session p s) sessions)) ∷ end ∷ [])) (may (session_line s) refl refl ∙ behind_one p s h.0 one_few)
    ∙ sessions_lead sessions (with_session p s) (Sessions (with_session p s)) h.1 all_few (λ line f k. refl))

-- the first lines
width_read : (p : PlanValue) → IsFormedPlan p → schedule_stage Width (width_line p.width) ≡ Some (Degree p.width)
width_read p h = ap (λ o. o >>= (λ n. Some (Degree n))) (marked_number_again (codes "width") field_limit p.width h.width (omega (arith, h.width)))

some_degree : (n : ℕ) → 1 ≤ n → eqb n 0 ≡ false
some_degree n h = grind (arith, nat_tests)

degree_read : (p : PlanValue) → IsFormedPlan p → schedule_stage (Degree p.width) (degree_line p.degree) ≡ Some (Mask p.width p.degree)
degree_read p h =
    ap (λ o. o >>= (λ n. if eqb n 0 then None else Some (Mask p.width n))) (marked_number_again (codes "degree") 21 p.degree (omega (arith, h.most)) (omega (arith, h.most))) ∙ ap (λ b. if b then None else Some (Mask p.width p.degree)) (some_degree p.degree h.least)

mask_read : (p : PlanValue) → IsFormedPlan p → schedule_stage (Mask p.width p.degree) (mask_line p.mask) ≡ Some (Registers (without_registers p.width p.degree p.mask))
mask_read p h = ap (λ o. o >>= (λ n. Some (Registers (without_registers p.width p.degree n)))) (marked_hex_again (codes "mask") p.mask h.mask)

frame_leads : (p : PlanValue) (more : List (List ℕ)) → IsFormedPlan p → stage_behind schedule_stage (Some Head) (frame_lines p ++ more) ≡ stage_behind schedule_stage (Some (Registers (without_registers p.width p.degree p.mask))) more
frame_leads p more h =
    ap (λ o. stage_behind schedule_stage o (degree_line p.degree ∷ mask_line p.mask ∷ more)) (width_read p h) ∙ ap (λ o. stage_behind schedule_stage o (mask_line p.mask ∷ more)) (degree_read p h) ∙ ap (λ o. stage_behind schedule_stage o more) (mask_read p h)

pub schedule_ends : (p : PlanValue) → IsFormedPlan p → stage_behind schedule_stage (Some Head) (schedule_lines p) ≡ Some (End p)
schedule_ends p h =
    let empty : PlanValue = without_registers p.width p.degree p.mask in
    let last : List (List ℕ) = map session_line p.sessions ++ cycles_line (test_cycles p) ∷ end ∷ [] in
    frame_leads p (flat_map register_lines p.registers ++ last) h ∙ registers_lead p.registers empty (Registers empty) last (Some (End p)) h.registers (λ line f. refl) (λ next may. sessions_lead p.sessions (with_registers empty p.registers) next h.sessions h.cycles (follows_session next (with_registers empty p.registers) may))

-- no line has a line feed
kind_clean : (kind : Kind) → IsLine (kind_word kind)
kind_clean Input = refl
kind_clean State = refl
kind_clean Split = refl
kind_clean Cut = refl
kind_clean Watch = refl
kind_clean Output = refl

field_clean : (mark : List ℕ) (n : ℕ) → IsLine mark → n < 2 ^ 64 → IsLine (mark ++ number_word n)
field_clean mark n h small = clean_join mark (number_word n) h (number_clean n small)

cell_clean : (c : Cell) → IsFormedCell c → IsLine (cell_line c)
cell_clean c h = clean_join (codes "cell ") (kind_word c.kind ++ (number_word c.net ++ hex_word c.column)) refl (clean_join (kind_word c.kind) (number_word c.net ++ hex_word c.column) (kind_clean c.kind) (clean_join (number_word c.net) (hex_word c.column) (number_clean c.net (omega (arith, h.net))) (hex_clean c.column)))

cells_clean : (cells : List Cell) → AllByRecursion IsFormedCell cells → AllByRecursion IsLine (map cell_line cells)
cells_clean [] h = tt
cells_clean (c ∷ cells) h = (cell_clean c h.0, cells_clean cells h.1)

registers_clean : (registers : List RegisterValue) → AllByRecursion IsFormedRegister registers → AllByRecursion IsLine (flat_map register_lines registers)
registers_clean [] h = tt
registers_clean (g ∷ registers) h = all_join IsLine (register_lines g) (flat_map register_lines registers) (clean_join (codes "register") (hex_word g.mask) refl (hex_clean g.mask), cells_clean g.cells h.0.cells) (registers_clean registers h.1)

number_small : (n : ℕ) → IsBelow field_limit n → IsLine (number_word n)
number_small n h = number_clean n (omega (arith, h))

sessions_clean : (sessions : List (List ℕ)) → AllByRecursion Numbers sessions → AllByRecursion IsLine (map session_line sessions)
sessions_clean [] h = tt
sessions_clean (s ∷ sessions) h = (clean_join (codes "session") (flat_map number_word s) refl (clean_parts (IsBelow field_limit) number_word number_small s h.0), sessions_clean sessions h.1)

frame_clean : (p : PlanValue) → IsFormedPlan p → AllByRecursion IsLine (frame_lines p)
frame_clean p h = (refl, (field_clean (codes "width") p.width refl (omega (arith, h.width)), (field_clean (codes "degree") p.degree refl (omega (arith, h.most)), (clean_join (codes "mask") (hex_word p.mask) refl (hex_clean p.mask), tt))))

pub schedule_clean : (p : PlanValue) → IsFormedPlan p → AllByRecursion IsLine (schedule_lines p)
schedule_clean p h =
    all_join IsLine (frame_lines p) _ (frame_clean p h) (all_join IsLine (flat_map register_lines p.registers) _ (registers_clean p.registers h.registers) (all_join IsLine (map session_line p.sessions) (cycles_line (test_cycles p) ∷ end ∷ []) (sessions_clean p.sessions h.sessions) (field_clean (codes "cycles") (test_cycles p) refl h.cycles, (refl, tt))))

pub end_same : (p q : PlanValue) → End p ≡ End q → p ≡ q
end_same p q e = cc e

-- what follows a number is shorter
pub number_shorter : (bytes : List ℕ) (n : ℕ) (rest : List ℕ) → front_number field_limit bytes ≡ Some (n, rest) → length rest < length bytes
number_shorter bytes n rest h =
    let back = number_back bytes n rest h in
    omega (arith, ap length back.is, length-append (number_word n) rest, ap length (number_starts n).1)
