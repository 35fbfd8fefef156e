-- The text of a plan, as it is appended part by part.
use Rattle.std.proofs.Common.{◌≡◌, ℕ, List, [], ◌∷◌, ◌++◌, map, codes, sym, ap, ◌∙◌, append_assoc}
use Rattle.std.proofs.lemmas.List.{append-nil}
use Rattle.std.proofs.lemmas.List.Concat.{flat_map-append}
use Rattle.std.specs.List.{flat_map}
use Rattle.bb_terms.specs.Plan.{PlanValue}
use Rattle.bb_spell.specs.Canonical.{with_feed}
use Rattle.bb_forms.specs.ScheduleText.{width_line, degree_line, mask_line, frame_lines, register_lines, session_line, cycles_line, test_cycles, schedule_text}

pub four_parts : (old a b c d t1 t2 t3 t4 : List ℕ) → t1 ≡ old ++ a → t2 ≡ t1 ++ b → t3 ≡ t2 ++ c → t4 ≡ t3 ++ d → t4 ≡ old ++ (a ++ (b ++ (c ++ (d ++ []))))
four_parts old a b c d t1 t2 t3 t4 p q r s =
    s ∙ ap (λ z. z ++ d) (r ∙ ap (λ z. z ++ c) (q ∙ ap (λ z. z ++ b) p)) ∙ append_assoc ((old ++ a) ++ b) c d ∙ append_assoc (old ++ a) b (c ++ d) ∙ append_assoc old a (b ++ (c ++ d)) ∙ ap (λ z. old ++ (a ++ (b ++ (c ++ z)))) (sym (append-nil d))

pub frame_written : (p : PlanValue) (old t1 t2 t3 t4 : List ℕ) (w d : ℕ) → w ≡ p.width → d ≡ p.degree → t1 ≡ old ++ codes "bilbo-schedule 1\n" → t2 ≡ t1 ++ with_feed (width_line w) → t3 ≡ t2 ++ with_feed (degree_line d) → t4 ≡ t3 ++ with_feed (mask_line p.mask) → t4 ≡ old ++ flat_map with_feed (frame_lines p)
frame_written p old t1 t2 t3 t4 w d e f a b c g =
    four_parts old (codes "bilbo-schedule 1\n") (with_feed (width_line p.width)) (with_feed (degree_line p.degree)) (with_feed (mask_line p.mask)) t1 t2 t3 t4 a (b ∙ ap (λ n. t1 ++ with_feed (width_line n)) e) (c ∙ ap (λ n. t2 ++ with_feed (degree_line n)) f) g

text_parts : (p : PlanValue) → schedule_text p ≡ flat_map with_feed (frame_lines p) ++ (flat_map with_feed (flat_map register_lines p.registers) ++ (flat_map with_feed (map session_line p.sessions) ++ (with_feed (cycles_line (test_cycles p)) ++ (codes "end\n" ++ []))))
text_parts p =
    let last : List (List ℕ) = cycles_line (test_cycles p) ∷ codes "end" ∷ [] in
    flat_map-append with_feed (frame_lines p) (flat_map register_lines p.registers ++ (map session_line p.sessions ++ last))
    ∙ ap (λ z. flat_map with_feed (frame_lines p) ++ z) (flat_map-append with_feed (flat_map register_lines p.registers) (map session_line p.sessions ++ last) ∙ ap (λ z. flat_map with_feed (flat_map register_lines p.registers) ++ z) (flat_map-append with_feed (map session_line p.sessions) last))

pub plan_written : (p : PlanValue) (t0 t1 t2 t3 t4 t5 : List ℕ) (n : ℕ) → n ≡ test_cycles p → t0 ≡ [] → t1 ≡ t0 ++ flat_map with_feed (frame_lines p) → t2 ≡ t1 ++ flat_map with_feed (flat_map register_lines p.registers) → t3 ≡ t2 ++ flat_map with_feed (map session_line p.sessions)
    → t4 ≡ t3 ++ with_feed (cycles_line n) → t5 ≡ t4 ++ codes "end\n" → t5 ≡ schedule_text p
plan_written p t0 t1 t2 t3 t4 t5 n e z a b c d f =
    let front : t1 ≡ flat_map with_feed (frame_lines p) = a ∙ ap (λ t. t ++ flat_map with_feed (frame_lines p)) z in
    four_parts (flat_map with_feed (frame_lines p)) (flat_map with_feed (flat_map register_lines p.registers)) (flat_map with_feed (map session_line p.sessions)) (with_feed (cycles_line (test_cycles p))) (codes "end\n") t2 t3 t4 t5 (b ∙ ap (λ t. t ++ flat_map with_feed (flat_map register_lines p.registers)) front) c
    (d ∙ ap (λ m. t3 ++ with_feed (cycles_line m)) e) f ∙ sym (text_parts p)
