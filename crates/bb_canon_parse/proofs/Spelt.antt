-- Bytes as lexemes, and the kinds of their tokens.
use Rattle.std.proofs.Common.{◌≡◌, ℕ, ◌+◌, ◌-◌, ◌*◌, ◌<◌, ◌≤◌, ◌^◌, List, [], ◌∷◌, ◌++◌, length, codes, decimal, Option, Some, None, IsSome, is_some, Bool, true, false, not, ◌||◌, eqb, refl, sym, ap, ◌∙◌, arith, append_assoc, subst, if◌then◌else◌}
use Rattle.std.proofs.lemmas.Bool.Decides.{nat_tests}
use Rattle.std.proofs.lemmas.List.Elements.{recursion_from_All}
use Rattle.std.proofs.lemmas.Fmt.{decimal_nonempty}
use Rattle.std.specs.List.{AllByRecursion, list_all}
use Rattle.std.specs.Char.{is_ascii_digit}
use Rattle.bb_base.specs.declared.token.Mark.TheVariants as marks
use Rattle.bb_base.specs.declared.token.TokenKind.{TokenKind}
use Rattle.bb_base.specs.declared.token.TokenKind.TheVariants.{Name, Number, Const, Mark}
use Rattle.bb_lex.specs.Bytes.{between, class_of, is_number, is_constant, is_odd, base_of, digit_of, value, AllOf, begins}
use Rattle.bb_base.specs.Keywords.{keyword_of, is_keyword}
use Rattle.bb_lex.specs.Keywords.{word_kind}
use Rattle.bb_lex.specs.Text.{Lexeme, Blank, Word, Escaped, Digits, Constant, Paren, Single, Plain, Literal, IsPlain, spelling, IsLexeme, kind_of, text_of, Each}
use Rattle.bb_base.specs.Name.{IsName, IsNameByte, is_name_byte}
use Rattle.bb_base.specs.Words.{starts_word, is_word_byte}
use Rattle.bb_spell.specs.Spelling.{is_simple, stands_plain, spelled_name}
use Rattle.bb_spell.specs.Front.{index_limit}
use Rattle.bb_spell.proofs.Again.{Pass, both_true, pass_from_all, read_decimal, decimal_passes}
use Rattle.bb_spell.specs.Front.{value_after}

-- the kinds of the tokens of lexemes
abbrev pub add_kind : Option TokenKind → List TokenKind → List TokenKind
add_kind None ks = ks
add_kind (Some k) ks = k ∷ ks

abbrev pub kinds_of : List Lexeme → List TokenKind
kinds_of [] = []
kinds_of (l ∷ ls) = add_kind (kind_of l) (kinds_of ls)

-- the bytes are lexemes before what follows, and their tokens have these kinds
pub record Spelt (bytes : List ℕ) (kinds : List TokenKind) (after : List ℕ) : Type 0 where
  pub lexemes : List Lexeme
  pub text : text_of lexemes after ≡ bytes ++ after
  pub each : Each lexemes after
  pub kinds_are : kinds_of lexemes ≡ kinds

pub text_join : (ls ms : List Lexeme) (last : List ℕ) → text_of (ls ++ ms) last ≡ text_of ls (text_of ms last)
text_join [] ms last = refl
text_join (l ∷ ls) ms last = ap (λ z. spelling l ++ z) (text_join ls ms last)

pub each_join : (ls ms : List Lexeme) (last : List ℕ) → Each ls (text_of ms last) → Each ms last → Each (ls ++ ms) last
each_join [] ms last h k = k
each_join (l ∷ ls) ms last h k = (subst (IsLexeme l) (sym (text_join ls ms last)) h.0, each_join ls ms last h.1 k)

add_join : (o : Option TokenKind) (ks ms : List TokenKind) → add_kind o (ks ++ ms) ≡ add_kind o ks ++ ms
add_join None ks ms = refl
add_join (Some k) ks ms = refl

kinds_join : (ls ms : List Lexeme) → kinds_of (ls ++ ms) ≡ kinds_of ls ++ kinds_of ms
kinds_join [] ms = refl
kinds_join (l ∷ ls) ms = ap (add_kind (kind_of l)) (kinds_join ls ms) ∙ add_join (kind_of l) (kinds_of ls) (kinds_of ms)

-- bytes behind others
pub spelt_join : (xs ys after : List ℕ) (ks ms : List TokenKind) → Spelt xs ks (ys ++ after) → Spelt ys ms after → Spelt (xs ++ ys) (ks ++ ms) after
spelt_join xs ys after ks ms a b = record {
  lexemes = a.lexemes ++ b.lexemes;
  text = text_join a.lexemes b.lexemes after ∙ ap (text_of a.lexemes) b.text ∙ a.text ∙ sym (append_assoc xs ys after);
  each = each_join a.lexemes b.lexemes after (subst (Each a.lexemes) (sym b.text) a.each) b.each;
  kinds_are = kinds_join a.lexemes b.lexemes ∙ (λ i. a.kinds_are i ++ b.kinds_are i);
}

pub spelt_nothing : (after : List ℕ) → Spelt [] [] after
spelt_nothing after = record { lexemes = []; text = refl; each = tt; kinds_are = refl }

-- one lexeme
pub spelt_one : (l : Lexeme) (after : List ℕ) → IsLexeme l after → Spelt (spelling l) (add_kind (kind_of l) []) after
spelt_one l after h = record { lexemes = l ∷ []; text = refl; each = (h, tt); kinds_are = refl }

-- marks, spaces and line feeds
pub comma : (after : List ℕ) → Spelt (codes ",") (Mark marks.Comma ∷ []) after
unfolding class_of
comma after = spelt_one (Single 44 marks.Comma) after refl

pub semicolon : (after : List ℕ) → Spelt (codes ";") (Mark marks.Semicolon ∷ []) after
unfolding class_of
semicolon after = spelt_one (Single 59 marks.Semicolon) after refl

pub colon : (after : List ℕ) → Spelt (codes ":") (Mark marks.Colon ∷ []) after
unfolding class_of
colon after = spelt_one (Single 58 marks.Colon) after refl

pub equals : (after : List ℕ) → Spelt (codes "=") (Mark marks.Equals ∷ []) after
unfolding class_of
equals after = spelt_one (Single 61 marks.Equals) after refl

pub close_paren : (after : List ℕ) → Spelt (codes ")") (Mark marks.RightParen ∷ []) after
unfolding class_of
close_paren after = spelt_one (Single 41 marks.RightParen) after refl

pub open_bracket : (after : List ℕ) → Spelt (codes "[") (Mark marks.LeftBracket ∷ []) after
unfolding class_of
open_bracket after = spelt_one (Single 91 marks.LeftBracket) after refl

pub close_bracket : (after : List ℕ) → Spelt (codes "]") (Mark marks.RightBracket ∷ []) after
unfolding class_of
close_bracket after = spelt_one (Single 93 marks.RightBracket) after refl

pub space : (after : List ℕ) → Spelt (codes " ") [] after
unfolding class_of
space after = spelt_one (Blank 32) after refl

pub feed : (after : List ℕ) → Spelt (codes "\n") [] after
unfolding class_of
feed after = spelt_one (Blank 10) after refl

-- no attribute begins
pub open_paren : (after : List ℕ) → begins (λ b. eqb b 42) after ≡ false → Spelt (codes "(") (Mark marks.LeftParen ∷ []) after
open_paren after h = spelt_one Paren after h

-- words
-- a byte that may begin a word is of the class of `A`
letter_class : (b : ℕ) → starts_word b ≡ true → class_of b ≡ class_of 65
unfolding class_of
letter_class b h = rw h refl

words_all : (bs : List ℕ) → Pass is_word_byte bs → AllOf is_word_byte bs
words_all [] h = tt
words_all (b ∷ bs) h = (h.0, words_all bs h.1)

-- a simple identifier, before what doesn't go on with it
pub word_spelt : (first : ℕ) (more after : List ℕ) → starts_word first ≡ true → Pass is_word_byte more → begins is_word_byte after ≡ false → length (first ∷ more) ≤ 1024 → Spelt (first ∷ more) (word_kind (first ∷ more) ∷ []) after
unfolding class_of
word_spelt first more after h k stops short = spelt_one (Word first more) after (letter_class first h, words_all more k, stops, short)

none_of : {A : Type 0} (o : Option A) → is_some o ≡ false → o ≡ None
none_of None h = refl
none_of (Some x) h = cc

pub no_keyword : (word : List ℕ) → is_keyword word ≡ false → word_kind word ≡ Name word
no_keyword word h = rw (none_of (keyword_of word) h) refl

name_graphic : (b : ℕ) → IsNameByte b → is_name_byte b ≡ true
name_graphic b h = grind (arith, nat_tests)

graphic_all : (bs : List ℕ) → AllByRecursion IsNameByte bs → AllOf is_name_byte bs
graphic_all [] h = tt
graphic_all (b ∷ bs) h = (name_graphic b h.0, graphic_all bs h.1)

space_ends : (after : List ℕ) → (begins is_name_byte (32 ∷ after) ≡ false) × (begins is_odd (32 ∷ after) ≡ false)
unfolding is_odd
space_ends after = (refl, refl)

escaped : (name after : List ℕ) → 0 < length name → length name ≤ 1024 → AllByRecursion IsNameByte name → Spelt (92 ∷ name) (Name name ∷ []) (32 ∷ after)
escaped [] after some short plain = absurd (omega arith)
escaped (b ∷ bs) after some short plain = spelt_one (Escaped b bs) (32 ∷ after) (graphic_all (b ∷ bs) plain, (space_ends after).0, (space_ends after).1, short)

plain_spelt : (name after : List ℕ) → is_simple name ≡ true → is_keyword name ≡ false → length name ≤ 1024 → begins is_word_byte after ≡ false → Spelt name (Name name ∷ []) after
plain_spelt [] after h k short stops = cc
plain_spelt (b ∷ bs) after h k short stops =
    let parts = both_true (starts_word b) (list_all is_word_byte bs) h in
    subst (λ kind. Spelt (b ∷ bs) (kind ∷ []) after) (no_keyword (b ∷ bs) k) (word_spelt b bs after parts.0 (pass_from_all is_word_byte bs parts.1) stops short)

not_true : (b : Bool) → not b ≡ true → b ≡ false
not_true true h = cc
not_true false h = refl

-- a name as it is written
pub name_spelt : (name after : List ℕ) → IsName name → begins is_word_byte after ≡ false → Spelt (spelled_name name) (Name name ∷ []) after
unfolding spelled_name
name_spelt name after h stops = go (stands_plain name) refl
  where
    go : (b : Bool) → stands_plain name ≡ b → Spelt (spelled_name name) (Name name ∷ []) after
    go true p =
        let parts = both_true (is_simple name) (not (is_keyword name)) p in
        rw p (plain_spelt name after parts.0 (not_true (is_keyword name) parts.1) h.short stops)
    go false p = rw p (spelt_join (92 ∷ name) (codes " ") after (Name name ∷ []) [] (escaped name after h.some h.short (recursion_from_All IsNameByte name h.plain)) (space after))

-- numbers
-- a digit is of the class of `0`
digit_class : (b : ℕ) → is_ascii_digit b ≡ true → class_of b ≡ class_of 48
unfolding class_of
digit_class b h =
    let s : (between 65 90 b || between 97 122 b || eqb b 95) ≡ false = grind (arith, nat_tests) in
    let t : between 48 57 b ≡ true = grind (arith, nat_tests) in
    rw (s, t) refl

digit_number : (b : ℕ) → is_ascii_digit b ≡ true → is_number b ≡ true
unfolding is_number
digit_number b h = grind (arith, nat_tests)

digit_is : (b : ℕ) → is_ascii_digit b ≡ true → digit_of b ≡ b - 48
unfolding digit_of
digit_is b h =
    let t : between 48 57 b ≡ true = grind (arith, nat_tests) in
    rw t refl

digit_other : (b : ℕ) → is_ascii_digit b ≡ true → eqb b 95 ≡ false
digit_other b h = grind (arith, nat_tests)

numbers_all : (bs : List ℕ) → Pass is_ascii_digit bs → AllOf is_number bs
numbers_all [] h = tt
numbers_all (b ∷ bs) h = (digit_number b h.0, numbers_all bs h.1)

one_more : (n b : ℕ) → is_ascii_digit b ≡ true → (if eqb b 95 then n else n * 10 + digit_of b) ≡ 10 * n + (b - 48)
one_more n b h =
    let d = digit_is b h in
    rw (digit_other b h) (omega (arith, d))

same_value : (n : ℕ) (bs : List ℕ) → Pass is_ascii_digit bs → value 10 n bs ≡ value_after n bs
same_value n [] h = refl
same_value n (b ∷ bs) h = ap (λ m. value 10 m bs) (one_more n b h.0) ∙ same_value (10 * n + (b - 48)) bs h.1

first_value : (b : ℕ) (bs : List ℕ) → Pass is_ascii_digit (b ∷ bs) → value 10 (digit_of b) bs ≡ value_after 0 (b ∷ bs)
first_value b bs h =
    let d : digit_of b ≡ 10 * 0 + (b - 48) = digit_is b h.0 ∙ omega arith in
    same_value (digit_of b) bs h.1 ∙ ap (λ m. value_after m bs) d

-- what follows neither goes on with a number nor makes it a size
pub record EndsNumber (after : List ℕ) : Type 0 where
  pub digits : begins is_number after ≡ false
  pub size : begins (λ b. eqb b 39) after ≡ false

digits_spelt : (ds after : List ℕ) (n : ℕ) → 0 < length ds → Pass is_ascii_digit ds → value_after 0 ds ≡ n → n < index_limit → EndsNumber after → Spelt ds (Number n ∷ []) after
unfolding class_of
digits_spelt [] after n some pass is small ends = absurd (omega arith)
digits_spelt (b ∷ bs) after n some pass is small ends =
    let same : value 10 (digit_of b) bs ≡ n = first_value b bs pass ∙ is in
    let below : value 10 (digit_of b) bs < 2147483648 = omega (arith, same, small) in
    let plain : Plain = record { first = b; more = bs } in
    let fits : IsPlain plain = record { digit = digit_class b pass.0; digits = numbers_all bs pass.1 } in
    subst (λ m. Spelt (b ∷ bs) (Number m ∷ []) after) same (spelt_one (Digits plain) after (fits, ends.digits, ends.size, below))

-- a number in decimal digits
pub number_spelt : (n : ℕ) (after : List ℕ) → n < index_limit → EndsNumber after → Spelt (decimal n) (Number n ∷ []) after
number_spelt n after small ends =
    let fits : n < 2 ^ 64 = omega arith in
    digits_spelt (decimal n) after n (decimal_nonempty n fits) (decimal_passes n fits) (read_decimal n fits) small ends

-- a constant of one bit
from_some : {A : Type 0} (o : Option A) → IsSome o → A
from_some None h = absurd cc
from_some (Some x) h = x

pub zero_spelt : (after : List ℕ) → Spelt (codes "1'b0") (Const 1 0 ∷ []) (59 ∷ after)
unfolding class_of digit_of base_of is_constant from_some
zero_spelt after =
    let literal : Literal = record { head = record { size = record { first = 49; more = [] }; sign = [] }; letter = 98; base = from_some (base_of 98) refl; first = 48; more = [] } in
    let below : 0 < 2 ^ 1 = omega arith in
    spelt_one (Constant literal) (59 ∷ after) (record { head = record { plain = record { digit = refl; digits = tt }; in_range = refl; sign = tt }; base = refl; digit = refl; digits = tt }, refl, below)

pub one_spelt : (after : List ℕ) → Spelt (codes "1'b1") (Const 1 1 ∷ []) (59 ∷ after)
unfolding class_of digit_of base_of is_constant from_some
one_spelt after =
    let literal : Literal = record { head = record { size = record { first = 49; more = [] }; sign = [] }; letter = 98; base = from_some (base_of 98) refl; first = 49; more = [] } in
    let below : 1 < 2 ^ 1 = omega arith in
    spelt_one (Constant literal) (59 ∷ after) (record { head = record { plain = record { digit = refl; digits = tt }; in_range = refl; sign = tt }; base = refl; digit = refl; digits = tt }, refl, below)
