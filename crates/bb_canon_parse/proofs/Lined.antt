-- The lines of a canonical text as lexemes, and their tokens with the numbers of their lines.
use Rattle.std.proofs.Common.{◌≡◌, ℕ, ◌+◌, ◌≤◌, List, [], ◌∷◌, ◌++◌, length, map, codes, Option, Some, None, Ok, Bool, true, false, ◌&&◌, eqb, refl, sym, ap, ◌∙◌, arith, append_assoc, subst}
use Rattle.std.proofs.lemmas.List.{append-nil}
use Rattle.std.proofs.lemmas.Bool.Decides.{nat_tests}
use Rattle.std.specs.List.{AllByRecursion, flat_map, list_all}
use Rattle.bb_base.specs.declared.token.Token.{Token}
use Rattle.bb_base.specs.declared.token.TokenKind.{TokenKind}
use Rattle.bb_lex.specs.Bytes.{feed, feeds, class_of}
use Rattle.bb_lex.specs.Text.{Lexeme, Blank, spelling, text_of, Each, kind_of, tokens_by, tokens_of, feeds_of, number, Denotes}
use Rattle.bb_base.specs.Net.{Flop}
use Rattle.bb_base.specs.Variables.{Bit, IsEntry}
use Rattle.bb_base.specs.Named.{Design}
use Rattle.bb_spell.specs.Spelling.{module_line, declaration, gate_line, flop_line}
use Rattle.bb_spell.specs.Canonical.{port_names, flop_lines, canonical_text, with_feed}
use Rattle.bb_spell.specs.Front.{index_limit}
use Rattle.bb_spell.specs.TextLines.{is_line_byte}
use Rattle.bb_spell.specs.Writable.{IsBitText, IsGateText, IsFlopText, HasClock, IsText}
use Rattle.bb_spell.proofs.Clean.{Clean, module_clean, declaration_clean, statement_clean, flop_clean}
use Rattle.bb_canon_parse.proofs.LineKinds.{Kinds, module_kinds, declaration_kinds, statement_kinds, flop_kinds, end_kinds, at, all_tokens, counted_tokens, flops_tokens, text_tokens}
use Rattle.bb_canon_parse.proofs.Spelt.{Spelt, add_kind, kinds_of, text_join, each_join}
use Rattle.bb_canon_parse.proofs.SpeltLines.{module_spelt, declaration_spelt, statement_spelt, flop_spelt, end_word, at_feed}

-- the bytes are lexemes before what follows, and behind so many line feeds their tokens are these; so many line feeds stand up to their end
record Lined (bytes : List ℕ) (before : ℕ) (tokens : List Token) (to : ℕ) (after : List ℕ) : Type 0 where
  lexemes : List Lexeme
  text : text_of lexemes after ≡ bytes ++ after
  each : Each lexemes after
  tokens_are : tokens_of before lexemes ≡ tokens
  feeds_are : feeds_of before lexemes ≡ to

tokens_join : (before : ℕ) (ls ms : List Lexeme) → tokens_of before (ls ++ ms) ≡ tokens_of before ls ++ tokens_of (feeds_of before ls) ms
tokens_join before [] ms = refl
tokens_join before (l ∷ ls) ms =
    ap (λ z. tokens_by before (kind_of l) ++ z) (tokens_join (before + feeds (spelling l)) ls ms)
    ∙ sym (append_assoc (tokens_by before (kind_of l)) (tokens_of (before + feeds (spelling l)) ls) (tokens_of (feeds_of before (l ∷ ls)) ms))

feeds_join : (before : ℕ) (ls ms : List Lexeme) → feeds_of before (ls ++ ms) ≡ feeds_of (feeds_of before ls) ms
feeds_join before [] ms = refl
feeds_join before (l ∷ ls) ms = feeds_join (before + feeds (spelling l)) ls ms

-- bytes behind others
lined_join : (xs ys : List ℕ) (before between to : ℕ) (ts us : List Token) (after : List ℕ) → Lined xs before ts between (ys ++ after) → Lined ys between us to after → Lined (xs ++ ys) before (ts ++ us) to after
lined_join xs ys before between to ts us after a b = record {
  lexemes = a.lexemes ++ b.lexemes;
  text = text_join a.lexemes b.lexemes after ∙ ap (text_of a.lexemes) b.text ∙ a.text ∙ sym (append_assoc xs ys after);
  each = each_join a.lexemes b.lexemes after (subst (Each a.lexemes) (sym b.text) a.each) b.each;
  tokens_are = tokens_join before a.lexemes b.lexemes ∙ (λ i. a.tokens_are i ++ tokens_of (a.feeds_are i) b.lexemes) ∙ ap (λ z. ts ++ z) b.tokens_are;
  feeds_are = feeds_join before a.lexemes b.lexemes ∙ ap (λ z. feeds_of z b.lexemes) a.feeds_are ∙ b.feeds_are;
}

-- line feeds
more_feeds : (xs ys : List ℕ) → feeds (xs ++ ys) ≡ feeds xs + feeds ys
more_feeds [] ys = omega arith
more_feeds (b ∷ xs) ys =
    let rec = more_feeds xs ys in
    omega (arith, rec)

no_feed : (b : ℕ) → is_line_byte b ≡ true → feed b ≡ 0
unfolding feed
no_feed b h =
    let other : eqb b 10 ≡ false = grind (arith, nat_tests) in
    rw other refl

both : (a c : Bool) → (a && c) ≡ true → (a ≡ true) × (c ≡ true)
both true c h = (refl, h)
both false c h = cc

clean_feeds : (bytes : List ℕ) → Clean bytes → feeds bytes ≡ 0
clean_feeds [] h = refl
clean_feeds (b ∷ bs) h =
    let parts = both (is_line_byte b) (list_all is_line_byte bs) h in
    let first = no_feed b parts.0 in
    let rec = clean_feeds bs parts.1 in
    omega (arith, first, rec)

-- the line feeds in lexemes
abbrev total : List Lexeme → ℕ
total [] = 0
total (l ∷ ls) = feeds (spelling l) + total ls

total_is : (ls : List Lexeme) (after : List ℕ) → feeds (text_of ls after) ≡ total ls + feeds after
total_is [] after = omega arith
total_is (l ∷ ls) after =
    let first = more_feeds (spelling l) (text_of ls after) in
    let rec = total_is ls after in
    omega (arith, first, rec)

-- lexemes without line feeds stand in one line
one_line : (before : ℕ) (ls : List Lexeme) → total ls ≡ 0 → (tokens_of before ls ≡ at (number before) (kinds_of ls)) × (feeds_of before ls ≡ before)
one_line before [] h = (refl, refl)
one_line before (l ∷ ls) h =
    let none : feeds (spelling l) ≡ 0 = omega (arith, h) in
    let same : before + feeds (spelling l) ≡ before = omega (arith, none) in
    let rest : total ls ≡ 0 = omega (arith, h) in
    let rec = one_line before ls rest in
    (ap (λ z. tokens_by before (kind_of l) ++ tokens_of z ls) same ∙ ap (λ z. tokens_by before (kind_of l) ++ z) rec.0 ∙ put (kind_of l), ap (λ z. feeds_of z ls) same ∙ rec.1)
  where
    put : (o : Option TokenKind) → tokens_by before o ++ at (number before) (kinds_of ls) ≡ at (number before) (add_kind o (kinds_of ls))
    put None = refl
    put (Some k) = refl

lined_within : (line after : List ℕ) (ks : Kinds) (before : ℕ) → Clean line → Spelt line ks after → Lined line before (at (number before) ks) before after
lined_within line after ks before clean s =
    let all = total_is s.lexemes after in
    let parts = more_feeds line after in
    let none = clean_feeds line clean in
    let same : feeds (text_of s.lexemes after) ≡ feeds (line ++ after) = ap feeds s.text in
    let zero : total s.lexemes ≡ 0 = omega (arith, all, parts, none, same) in
    let one = one_line before s.lexemes zero in
    record { lexemes = s.lexemes; text = s.text; each = s.each; tokens_are = one.0 ∙ ap (at (number before)) s.kinds_are; feeds_are = one.1 }

lined_feed : (before : ℕ) (after : List ℕ) → Lined (codes "\n") before [] (before + 1) after
unfolding class_of feed
lined_feed before after = record { lexemes = Blank 10 ∷ []; text = refl; each = (refl, tt); tokens_are = refl; feeds_are = refl }

-- a line with its line feed
lined_line : (line after : List ℕ) (ks : Kinds) (before : ℕ) → Clean line → Spelt line ks (10 ∷ after) → Lined (with_feed line) before (at (number before) ks) (before + 1) after
lined_line line after ks before clean s =
    subst (λ z. Lined (with_feed line) before z (before + 1) after) (append-nil (at (number before) ks)) (lined_join line (codes "\n") before before (before + 1) (at (number before) ks) [] after (lined_within line (10 ∷ after) ks before clean s) (lined_feed before after))

-- lines one behind the other
all_lined : {X : Type 0} (P : X → Type 0) (f : X → List ℕ) (kinds : X → Kinds) → ((x : X) (after : List ℕ) → P x → Spelt (f x) (kinds x) after) → ((x : X) → P x → Clean (f x)) → (before : ℕ) (xs : List X) (others : List (List ℕ)) (behind : List Token) (to : ℕ) → AllByRecursion P xs
    → Lined (flat_map with_feed others) (before + length xs) behind to [] → Lined (flat_map with_feed (map f xs ++ others)) before (all_tokens kinds before xs behind) to []
all_lined P f kinds each clean before [] others behind to all s = subst (λ z. Lined (flat_map with_feed others) z behind to []) (omega arith) s
all_lined P f kinds each clean before (x ∷ xs) others behind to all s =
    lined_join (with_feed (f x)) (flat_map with_feed (map f xs ++ others)) before (before + 1) to (at (number before) (kinds x)) (all_tokens kinds (before + 1) xs behind) []
    (lined_line (f x) _ (kinds x) before (clean x all.0) (each x _ all.0)) (all_lined P f kinds each clean (before + 1) xs others behind to all.1 (subst (λ z. Lined (flat_map with_feed others) z behind to []) (omega arith) s))

counted_lined : (clock : Bit) (j before : ℕ) (fs : List (Flop Bit)) (others : List (List ℕ)) (behind : List Token) (to : ℕ) → j + length fs ≤ index_limit → IsBitText clock → AllByRecursion IsFlopText fs → Lined (flat_map with_feed others) (before + length fs) behind to []
    → Lined (flat_map with_feed (flop_lines (Some clock) j fs ++ others)) before (counted_tokens clock j before fs behind) to []
counted_lined clock j before [] others behind to small h all s = subst (λ z. Lined (flat_map with_feed others) z behind to []) (omega arith) s
counted_lined clock j before (f ∷ fs) others behind to small h all s =
    lined_join (with_feed (flop_line (Some clock) j f)) (flat_map with_feed (flop_lines (Some clock) (j + 1) fs ++ others)) before (before + 1) to (at (number before) (flop_kinds clock j f)) (counted_tokens clock (j + 1) (before + 1) fs behind) []
    (lined_line (flop_line (Some clock) j f) _ (flop_kinds clock j f) before (flop_clean clock j f (omega arith) h all.0) (flop_spelt clock j f _ (omega arith) h all.0))
    (counted_lined clock (j + 1) (before + 1) fs others behind to (omega arith) h all.1 (subst (λ z. Lined (flat_map with_feed others) z behind to []) (omega arith) s))

flops_lined : (clock : Option Bit) (before : ℕ) (fs : List (Flop Bit)) (others : List (List ℕ)) (behind : List Token) (to : ℕ) → HasClock clock fs → length fs ≤ index_limit → AllByRecursion IsFlopText fs → Lined (flat_map with_feed others) (before + length fs) behind to []
    → Lined (flat_map with_feed (flop_lines clock 0 fs ++ others)) before (flops_tokens clock before fs behind) to []
flops_lined None before [] others behind to e few all s = subst (λ z. Lined (flat_map with_feed others) z behind to []) (omega arith) s
flops_lined None before (f ∷ fs) others behind to e few all s = cc
flops_lined (Some clock) before fs others behind to e few all s = counted_lined clock 0 before fs others behind to (omega arith) e.0 all s

end_lined : (before : ℕ) → Lined (flat_map with_feed (codes "endmodule" ∷ [])) before (at (number before) end_kinds) (before + 1) []
end_lined before = lined_line (codes "endmodule") [] end_kinds before refl (end_word _ at_feed)

-- the lines of a text but the last
abbrev last_line : Design → ℕ
last_line d = 1 + length d.variables + length d.netlist.gates + length d.netlist.flops

text_lined : (d : Design) → IsText d → Lined (canonical_text d) 0 (text_tokens d (last_line d)) (last_line d + 1) []
text_lined d t =
    lined_join (with_feed (module_line d.module_name (port_names d.variables))) _ 0 1 (last_line d + 1) (at (number 0) (module_kinds d.module_name (port_names d.variables))) _ []
    (lined_line (module_line d.module_name (port_names d.variables)) _ _ 0 (module_clean d.module_name (port_names d.variables) t.name t.ports) (module_spelt d.module_name (port_names d.variables) _ t.name t.ports))
    (all_lined IsEntry declaration declaration_kinds declaration_spelt declaration_clean 1 d.variables _ _ (last_line d + 1) t.variables
    (all_lined IsGateText gate_line statement_kinds statement_spelt statement_clean (1 + length d.variables) d.netlist.gates _ _ (last_line d + 1) t.gates
    (flops_lined d.clock (1 + length d.variables + length d.netlist.gates) d.netlist.flops (codes "endmodule" ∷ []) (at (number (last_line d)) end_kinds) (last_line d + 1) t.clock t.few t.flops (end_lined (last_line d)))))

-- a text's tokens, and its last line's number
pub record Lexed (text : List ℕ) (tokens : List Token) : Type 0 where
  pub line : ℕ
  pub denotes : Denotes text tokens (Ok line)

lexed_of : (text : List ℕ) (tokens : List Token) (to : ℕ) → Lined text 0 tokens to [] → Lexed text tokens
lexed_of text tokens to s = record {
  line = number (feeds_of 0 s.lexemes);
  denotes = record { lexemes = s.lexemes; last = []; spelt = sym (s.text ∙ append-nil text); each = s.each; given_tokens = sym s.tokens_are; stops = (refl, refl) };
}

pub text_lexed : (d : Design) → IsText d → Lexed (canonical_text d) (text_tokens d (last_line d))
text_lexed d t = lexed_of (canonical_text d) (text_tokens d (last_line d)) (last_line d + 1) (text_lined d t)
