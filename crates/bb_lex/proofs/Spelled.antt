-- The machine's run over lexemes and flaws, and so over whole texts.
use Rattle.std.proofs.Common.{◌≡◌, ℕ, ◌+◌, ◌^◌, ◌<◌, ◌≤◌, min, nat_lt, Bool, true, false, cond, ◌||◌, ◌==◌, ◌⊎◌, List, [], ◌∷◌, ◌++◌, Option, Some, None, Result, Ok, Err, refl, sym, ap, subst, ◌∙◌, append_assoc, append-nil, arith, inl, inr}
use Rattle.std.proofs.lemmas.Bool.{cases_lt}
use Rattle.std.proofs.lemmas.Bool.Decides.{nat_tests}
use Rattle.std.proofs.Math.Nat.{pow-le-pow_right}
use Rattle.bb_lex.specs.declared.bytes.Class.TheVariants as class
use Rattle.bb_lex.specs.declared.lexer.Fence.{Fence}
use Rattle.bb_lex.specs.declared.lexer.Fence.TheVariants.{Comment, Attribute}
use Rattle.bb_lex.specs.declared.lexer.Place.TheVariants.{Outside}
use Rattle.bb_base.specs.declared.lex_fault.LexFault.{LexFault}
use Rattle.bb_base.specs.declared.lex_fault.LexFault.TheVariants as faults
use Rattle.bb_base.specs.declared.token.Mark.TheVariants as marks
use Rattle.bb_base.specs.declared.token.TokenKind.{TokenKind}
use Rattle.bb_base.specs.declared.token.TokenKind.TheVariants as kinds
use Rattle.bb_base.specs.declared.token.Token.{Token}
use Rattle.bb_base.specs.Name.{is_name_byte}
use Rattle.bb_base.specs.Words.{is_word_byte}
use Rattle.bb_lex.specs.Bytes.{between, class_of, is_number, is_sign, is_base, radix_of, is_digit_or_low, with_digit, AllOf, begins, feed, feeds}
use Rattle.bb_lex.specs.Keywords.{word_kind}
use Rattle.bb_lex.specs.Fences.{opener, closer}
use Rattle.bb_lex.specs.Machine.{Between, InName, InNumber, AtQuote, AtBase, InConstant, AtTilde, AtCaret, AtParen, AtSlash, AtTick, InLine, InFence, AtBackslash, InEscaped, Failed, Machine, at, one, number_limit, constant_limit, goes_on, checked, is_short, close_as, close, run, answer_by, start, Closes}
use Rattle.bb_lex.specs.Text.{number, is_in_line, timescale, Plain, plain_text, plain_value, IsPlain, Head, head_text, head_size, IsSign, IsHead, Literal, literal_text, literal_value, IsLiteral, Lexeme, Blank, LineComment, Timescale, Fenced, Word, Escaped, Digits, Constant, Paren, Tilde, Caret, TildeCaret, CaretTilde, Single, spelling, IsLexeme, kind_of, tokens_by, token_of, text_of, Each, tokens_of, feeds_of, Flaw, Stray, StraySlash, StrayTick, StrayBackslash, CutName, LongWord, LongEscaped, LargeNumber, BadSize, NoBase, NoDigit, OddDigit, LargeConstant, Open, flaw_text, NoSign, IsFlaw, fault_of, IsEnd, Denotes}
use Rattle.bb_lex.proofs.ByteLemmas.{slash_is, backslash_is, tick_is, paren_is, tilde_is, caret_is, feed_star, feed_slash, feed_backslash, feed_tick, feed_paren, feed_tilde, feed_caret, feed_quote, opener_feed, closer_feed, timescale_feeds, letter_feed, digit_feed, single_feed, word_feed, number_feed, graphic_feed, constant_feed, sign_feed, base_feed, inside_feed, feeds_none, feeds-append, figure_goes, digit_goes}
use Rattle.bb_lex.proofs.Runs.{ends, begins_as, goes, closes_by, fails_by, kept, word_run, begin_escaped, escaped_off, odd_step, kept_short, short_yes, short_no, plain_goes, number_off, quote_goes, is_signed, head_goes, letter_goes, literal_goes, line_run, tick_goes, tick_fails, fed_number, fence_run, open_run}

-- ---- line feeds of what a text is made of

plain_feeds : (p : Plain) → IsPlain p → feeds (plain_text p) ≡ 0
plain_feeds p h = omega (arith, digit_feed p.first h.digit, feeds_none is_number number_feed p.more h.digits)

sign_feeds : (sign : List ℕ) → IsSign sign → feeds sign ≡ 0
sign_feeds [] h = refl
sign_feeds (s ∷ []) h = omega (arith, sign_feed s h)
sign_feeds (s ∷ t ∷ more_bytes) h = absurd h

head_feeds : (h : Head) → IsHead h → feeds (head_text h) ≡ 0
head_feeds h k = omega (arith, feeds-append (plain_text h.size) (39 ∷ h.sign), plain_feeds h.size k.plain, feed_quote, sign_feeds h.sign k.sign)

literal_feeds : (l : Literal) → IsLiteral l → feeds (literal_text l) ≡ 0
literal_feeds l h = omega (
  arith,
  feeds-append (head_text l.head) (l.letter ∷ l.first ∷ l.more),
  head_feeds l.head h.head,
  base_feed l.letter l.base h.base,
  constant_feed l.first (digit_goes l.base l.first h.digit),
  feeds_none (is_digit_or_low l.base) (λ b k. constant_feed b (figure_goes l.base b k)) l.more h.digits,
)

fence_feeds : (fence : Fence) (body : List ℕ) → feeds (opener fence ∷ 42 ∷ (body ++ 42 ∷ closer fence ∷ [])) ≡ feeds body
fence_feeds fence body = omega (arith, opener_feed fence, feed_star, feeds-append body (42 ∷ closer fence ∷ []), closer_feed fence)

-- ---- what a lexeme leaves

-- a token
token_left : (l : Lexeme) (kind : TokenKind) (after : List ℕ) (n : ℕ) (tokens : List Token) → kind_of l ≡ Some kind → feeds (spelling l) ≡ 0
    → close (run (at Between (number n) (tokens ++ one kind (number n))) after) ≡ close (run (at Between (number (n + feeds (spelling l))) (tokens ++ token_of n l)) after)
token_left l kind after n tokens k f =
    let e : number n ≡ number (n + feeds (spelling l)) = omega arith in
    ap (λ (x : ℕ). close (run (at Between x (tokens ++ one kind (number n))) after)) e
    ∙ ap (λ (o : Option TokenKind). close (run (at Between (number (n + feeds (spelling l))) (tokens ++ tokens_by n o)) after)) (sym k)

-- nothing but its line feeds
nothing_left : (l : Lexeme) (count : ℕ) (after : List ℕ) (n : ℕ) (tokens : List Token) → kind_of l ≡ None → feeds (spelling l) ≡ count
    → close (run (at Between (number (n + count)) tokens) after) ≡ close (run (at Between (number (n + feeds (spelling l))) (tokens ++ token_of n l)) after)
nothing_left l count after n tokens k f =
    ap (λ (x : ℕ). close (run (at Between (number (n + x)) tokens) after)) (sym f)
    ∙ ap (λ (x : List Token). close (run (at Between (number (n + feeds (spelling l))) x) after)) (sym (append-nil tokens))
    ∙ ap (λ (o : Option TokenKind). close (run (at Between (number (n + feeds (spelling l))) (tokens ++ tokens_by n o)) after)) (sym k)

same_line : (after : List ℕ) (n : ℕ) (tokens : List Token) → close (run (at Between (number n) tokens) after) ≡ close (run (at Between (number (n + 0)) tokens) after)
same_line after n tokens = let e : n ≡ n + 0 = omega arith in ap (λ (x : ℕ). close (run (at Between (number x) tokens) after)) e

-- what is checked as it ends, and keeps its rule
checked_yes : (t : Bool) (kind : TokenKind) (fault : LexFault) (after : List ℕ) (line : ℕ) (tokens : List Token) → t ≡ true
    → close (run (close_as (checked t kind fault) line tokens) after) ≡ close (run (at Between line (tokens ++ one kind line)) after)
checked_yes t kind fault after line tokens h = ap (λ (x : Bool). close (run (close_as (checked x kind fault) line tokens) after)) h

-- and what breaks it
checked_no : (t : Bool) (kind : TokenKind) (fault : LexFault) (after : List ℕ) (line : ℕ) (tokens : List Token) → t ≡ false
    → close (run (close_as (checked t kind fault) line tokens) after) ≡ close (run (at (Failed fault) line tokens) after)
checked_no t kind fault after line tokens h = ap (λ (x : Bool). close (run (close_as (checked x kind fault) line tokens) after)) h

less : (m n : ℕ) → m < n → nat_lt m n ≡ true
less m n h = grind (arith, nat_tests)

not_less : (m n : ℕ) → n ≤ m → nat_lt m n ≡ false
not_less m n h = grind (arith, nat_tests)

in_range : (n : ℕ) → between 1 128 n ≡ true → n ≤ 128
in_range n h = grind (arith, nat_tests)

small_power : (s : ℕ) → s ≤ 128 → 2 ^ s ≤ constant_limit
small_power s h = let p : 2 ^ s ≤ 2 ^ 128 = pow-le-pow_right (omega arith) h in p

-- a constant's value that fits its size isn't cut
fits_yes : (v s : ℕ) → s ≤ 128 → v < 2 ^ s → (min v constant_limit ≡ v) × (nat_lt v (2 ^ min s 128) ≡ true)
fits_yes v s h k =
    let p = small_power s h in
    let e : min v constant_limit ≡ v = omega (arith, p) in
    let m : s ≡ min s 128 = omega arith in
    (e, ap (λ (x : ℕ). nat_lt v (2 ^ x)) (sym m) ∙ less v (2 ^ s) k)

-- one that doesn't stays too large
fits_no : (v s : ℕ) → s ≤ 128 → 2 ^ s ≤ v → nat_lt (min v constant_limit) (2 ^ min s 128) ≡ false
fits_no v s h k =
    let p = small_power s h in
    let m : s ≡ min s 128 = omega arith in
    let le : 2 ^ s ≤ min v constant_limit = omega (arith, p) in
    ap (λ (x : ℕ). nat_lt (min v constant_limit) (2 ^ x)) (sym m) ∙ not_less (min v constant_limit) (2 ^ s) le

-- ---- each lexeme

blank_goes : (b : ℕ) (after : List ℕ) (n : ℕ) (tokens : List Token) → class_of b ≡ class.Blank
    → close (run (at Between (number n) tokens) (b ∷ after)) ≡ close (run (at Between (number (n + feeds (b ∷ []))) (tokens ++ [])) after)
blank_goes b after n tokens h =
    let one_byte : feeds (b ∷ []) ≡ feed b = omega arith in
    ap close (begins_as class.Blank b after (number n) tokens h)
    ∙ ap (λ (x : ℕ). close (run (at Between x tokens) after)) (fed_number n b)
    ∙ nothing_left (Blank b) (feed b) after n tokens refl one_byte

line_goes : (body after : List ℕ) (n : ℕ) (tokens : List Token) → AllOf is_in_line body → begins is_in_line after ≡ false
    → close (run (at InLine (number n) tokens) (body ++ after)) ≡ close (run (at Between (number (n + 0)) tokens) after)
line_goes body after n tokens h k = ap close (line_run body after (number n) tokens h) ∙ ends (at InLine (number n) tokens) after k ∙ same_line after n tokens

comment_goes : (body after : List ℕ) (n : ℕ) (tokens : List Token) → IsLexeme (LineComment body) after
    → close (run (at Between (number n) tokens) (47 ∷ 47 ∷ (body ++ after))) ≡ close (run (at Between (number (n + feeds (47 ∷ 47 ∷ body))) (tokens ++ [])) after)
comment_goes body after n tokens h =
    let none : feeds (47 ∷ 47 ∷ body) ≡ 0 = omega (arith, feed_slash, feeds_none is_in_line inside_feed body h.0) in
    ap close (begins_as class.Slash 47 (47 ∷ (body ++ after)) (number n) tokens slash_is)
    ∙ line_goes body after n tokens h.0 h.1
    ∙ nothing_left (LineComment body) 0 after n tokens refl none

timescale_goes : (body after : List ℕ) (n : ℕ) (tokens : List Token) → IsLexeme (Timescale body) after
    → close (run (at Between (number n) tokens) (spelling (Timescale body) ++ after)) ≡ close (run (at Between (number (n + feeds (spelling (Timescale body)))) (tokens ++ [])) after)
timescale_goes body after n tokens h =
    let none : feeds (spelling (Timescale body)) ≡ 0 = omega (arith, feed_tick, feeds-append timescale body, timescale_feeds, feeds_none is_in_line inside_feed body h.0) in
    ap close (begins_as class.Tick 96 ((timescale ++ body) ++ after) (number n) tokens tick_is)
    ∙ ap (λ (x : List ℕ). close (run (at (AtTick 0) (number n) tokens) x)) (append_assoc timescale body after)
    ∙ ap close (tick_goes (body ++ after) (number n) tokens)
    ∙ line_goes body after n tokens h.0 h.1
    ∙ nothing_left (Timescale body) 0 after n tokens refl none

begin_fence : (fence : Fence) (text : List ℕ) (line : ℕ) (tokens : List Token)
    → run (at Between line tokens) (opener fence ∷ 42 ∷ text) ≡ run (at (InFence fence Outside false line) line tokens) text
begin_fence Comment text line tokens = begins_as class.Slash 47 (42 ∷ text) line tokens slash_is
begin_fence Attribute text line tokens = begins_as class.Paren 40 (42 ∷ text) line tokens paren_is

fence_goes : (fence : Fence) (body after : List ℕ) (n : ℕ) (tokens : List Token) → IsLexeme (Fenced fence body) after
    → close (run (at Between (number n) tokens) (spelling (Fenced fence body) ++ after)) ≡ close (run (at Between (number (n + feeds (spelling (Fenced fence body)))) (tokens ++ [])) after)
fence_goes fence body after n tokens h =
    ap (λ (x : List ℕ). close (run (at Between (number n) tokens) (opener fence ∷ 42 ∷ x))) (append_assoc body (42 ∷ closer fence ∷ []) after)
    ∙ ap close (begin_fence fence (body ++ 42 ∷ closer fence ∷ after) (number n) tokens ∙ fence_run fence Outside false body after (number n) n tokens h.0 h.1)
    ∙ nothing_left (Fenced fence body) (feeds body) after n tokens refl (fence_feeds fence body)

word_begins : (first : ℕ) (more rest : List ℕ) (line : ℕ) (tokens : List Token) → class_of first ≡ class.Letter → AllOf is_word_byte more
    → run (at Between line tokens) (first ∷ (more ++ rest)) ≡ run (at (InName (kept (first ∷ more))) line tokens) rest
word_begins first more rest line tokens h k = begins_as class.Letter first (more ++ rest) line tokens h ∙ word_run (first ∷ []) more rest line tokens k

word_goes : (first : ℕ) (more after : List ℕ) (n : ℕ) (tokens : List Token) → IsLexeme (Word first more) after
    → close (run (at Between (number n) tokens) (first ∷ (more ++ after))) ≡ close (run (at Between (number (n + feeds (first ∷ more))) (tokens ++ token_of n (Word first more))) after)
word_goes first more after n tokens h =
    let none : feeds (first ∷ more) ≡ 0 = omega (arith, letter_feed first h.0, feeds_none is_word_byte word_feed more h.1) in
    ap close (word_begins first more after (number n) tokens h.0 h.1)
    ∙ ap (λ (x : List ℕ). close (run (at (InName x) (number n) tokens) after)) (kept_short (first ∷ more) h.3)
    ∙ ends (at (InName (first ∷ more)) (number n) tokens) after h.2
    ∙ checked_yes (is_short (first ∷ more)) (word_kind (first ∷ more)) (faults.LongName (number n)) after (number n) tokens (short_yes first more h.3)
    ∙ token_left (Word first more) (word_kind (first ∷ more)) after n tokens refl none

escaped_begins : (first : ℕ) (more rest : List ℕ) (line : ℕ) (tokens : List Token) → AllOf is_name_byte (first ∷ more)
    → run (at Between line tokens) (92 ∷ first ∷ (more ++ rest)) ≡ run (at (InEscaped (kept (first ∷ more))) line tokens) rest
escaped_begins first more rest line tokens h = begins_as class.Backslash 92 (first ∷ (more ++ rest)) line tokens backslash_is ∙ begin_escaped first more rest line tokens h

escaped_goes : (first : ℕ) (more after : List ℕ) (n : ℕ) (tokens : List Token) → IsLexeme (Escaped first more) after
    → close (run (at Between (number n) tokens) (92 ∷ first ∷ (more ++ after))) ≡ close (run (at Between (number (n + feeds (92 ∷ first ∷ more))) (tokens ++ token_of n (Escaped first more))) after)
escaped_goes first more after n tokens h =
    let none : feeds (92 ∷ first ∷ more) ≡ 0 = omega (arith, feed_backslash, feeds_none is_name_byte graphic_feed (first ∷ more) h.0) in
    ap close (escaped_begins first more after (number n) tokens h.0)
    ∙ ap (λ (x : List ℕ). close (run (at (InEscaped x) (number n) tokens) after)) (kept_short (first ∷ more) h.3)
    ∙ ends (at (InEscaped (first ∷ more)) (number n) tokens) after (escaped_off after (first ∷ more) h.1 h.2)
    ∙ checked_yes (is_short (first ∷ more)) (kinds.Name (first ∷ more)) (faults.LongName (number n)) after (number n) tokens (short_yes first more h.3)
    ∙ token_left (Escaped first more) (kinds.Name (first ∷ more)) after n tokens refl none

number_kept : (n : ℕ) → n < 2147483648 → min n number_limit ≡ n
number_kept n h = omega arith

digits_goes : (p : Plain) (after : List ℕ) (n : ℕ) (tokens : List Token) → IsLexeme (Digits p) after
    → close (run (at Between (number n) tokens) (plain_text p ++ after)) ≡ close (run (at Between (number (n + feeds (plain_text p))) (tokens ++ token_of n (Digits p))) after)
digits_goes p after n tokens h =
    ap close (plain_goes p after (number n) tokens h.0)
    ∙ ap (λ (x : ℕ). close (run (at (InNumber x) (number n) tokens) after)) (number_kept (plain_value p) h.3)
    ∙ ends (at (InNumber (plain_value p)) (number n) tokens) after (number_off (plain_value p) after h.1 h.2)
    ∙ checked_yes (nat_lt (plain_value p) number_limit) (kinds.Number (plain_value p)) (faults.BadNumber (number n)) after (number n) tokens (less (plain_value p) number_limit h.3)
    ∙ token_left (Digits p) (kinds.Number (plain_value p)) after n tokens refl (plain_feeds p h.0)

constant_goes : (l : Literal) (after : List ℕ) (n : ℕ) (tokens : List Token) → IsLexeme (Constant l) after
    → close (run (at Between (number n) tokens) (literal_text l ++ after)) ≡ close (run (at Between (number (n + feeds (literal_text l))) (tokens ++ token_of n (Constant l))) after)
constant_goes l after n tokens h =
    let f = fits_yes (literal_value l) (head_size l.head) (in_range (head_size l.head) h.0.head.in_range) h.2 in
    ap close (literal_goes l after (number n) tokens h.0)
    ∙ ap (λ (x : ℕ). close (run (at (InConstant (head_size l.head) l.base x) (number n) tokens) after)) f.0
    ∙ ends (at (InConstant (head_size l.head) l.base (literal_value l)) (number n) tokens) after h.1
    ∙ checked_yes (nat_lt (literal_value l) (2 ^ min (head_size l.head) 128)) (kinds.Const (head_size l.head) (literal_value l)) (faults.BadNumber (number n)) after (number n) tokens f.1
    ∙ token_left (Constant l) (kinds.Const (head_size l.head) (literal_value l)) after n tokens refl (literal_feeds l h.0)

-- a lexeme gives its token, and the run goes on behind it
pub lexeme_goes : (l : Lexeme) (after : List ℕ) (n : ℕ) (tokens : List Token) → IsLexeme l after
    → close (run (at Between (number n) tokens) (spelling l ++ after)) ≡ close (run (at Between (number (n + feeds (spelling l))) (tokens ++ token_of n l)) after)
lexeme_goes (Blank b) after n tokens h = blank_goes b after n tokens h
lexeme_goes (LineComment body) after n tokens h = comment_goes body after n tokens h
lexeme_goes (Timescale body) after n tokens h = timescale_goes body after n tokens h
lexeme_goes (Fenced fence body) after n tokens h = fence_goes fence body after n tokens h
lexeme_goes (Word first more) after n tokens h = word_goes first more after n tokens h
lexeme_goes (Escaped first more) after n tokens h = escaped_goes first more after n tokens h
lexeme_goes (Digits p) after n tokens h = digits_goes p after n tokens h
lexeme_goes (Constant l) after n tokens h = constant_goes l after n tokens h
lexeme_goes Paren after n tokens h =
    let none : feeds (40 ∷ []) ≡ 0 = omega (arith, feed_paren) in
    ap close (begins_as class.Paren 40 after (number n) tokens paren_is)
    ∙ ends (at AtParen (number n) tokens) after h
    ∙ token_left Paren (kinds.Mark marks.LeftParen) after n tokens refl none
lexeme_goes Tilde after n tokens h =
    let none : feeds (126 ∷ []) ≡ 0 = omega (arith, feed_tilde) in
    ap close (begins_as class.Tilde 126 after (number n) tokens tilde_is)
    ∙ ends (at AtTilde (number n) tokens) after h
    ∙ token_left Tilde (kinds.Mark marks.Tilde) after n tokens refl none
lexeme_goes Caret after n tokens h =
    let none : feeds (94 ∷ []) ≡ 0 = omega (arith, feed_caret) in
    ap close (begins_as class.Caret 94 after (number n) tokens caret_is)
    ∙ ends (at AtCaret (number n) tokens) after h
    ∙ token_left Caret (kinds.Mark marks.Caret) after n tokens refl none
lexeme_goes TildeCaret after n tokens h =
    let none : feeds (126 ∷ 94 ∷ []) ≡ 0 = omega (arith, feed_tilde, feed_caret) in
    ap close (begins_as class.Tilde 126 (94 ∷ after) (number n) tokens tilde_is)
    ∙ token_left TildeCaret (kinds.Mark marks.TildeCaret) after n tokens refl none
lexeme_goes CaretTilde after n tokens h =
    let none : feeds (94 ∷ 126 ∷ []) ≡ 0 = omega (arith, feed_tilde, feed_caret) in
    ap close (begins_as class.Caret 94 (126 ∷ after) (number n) tokens caret_is)
    ∙ token_left CaretTilde (kinds.Mark marks.CaretTilde) after n tokens refl none
lexeme_goes (Single b mark) after n tokens h =
    let none : feeds (b ∷ []) ≡ 0 = omega (arith, single_feed b mark h) in
    ap close (begins_as (class.Single mark) b after (number n) tokens h)
    ∙ token_left (Single b mark) (kinds.Mark mark) after n tokens refl none

-- ---- each flaw

slash_off : (after : List ℕ) → begins (λ b. b == 47) after ≡ false → begins (λ b. b == 42) after ≡ false → begins (goes_on AtSlash) after ≡ false
slash_off [] h k = refl
slash_off (b ∷ after) h k = ap (λ (t : Bool). t || b == 42) h ∙ k

quote_off : (sign after : List ℕ) (size : ℕ) → begins is_base after ≡ false → NoSign sign after → begins (goes_on (AtQuote (is_signed sign) size)) after ≡ false
quote_off sign [] size h k = refl
quote_off [] (b ∷ after) size h k = ap (λ (t : Bool). t || is_sign b) h ∙ k
quote_off (s ∷ sign) (b ∷ after) size h k = ap (λ (t : Bool). t || false) h

number_large : (n : ℕ) → 2147483648 ≤ n → nat_lt (min n number_limit) number_limit ≡ false
number_large n h = let le : number_limit ≤ min n number_limit = omega arith in not_less (min n number_limit) number_limit le

size_stays : (n : ℕ) → between 1 128 n ≡ false → between 1 128 (min n number_limit) ≡ false
size_stays n h = by (cases_lt n number_limit)
  where
    large : (m : ℕ) → 128 < m → between 1 128 m ≡ false
    large m k = grind (arith, nat_tests)

    by : (n < number_limit) ⊎ (number_limit ≤ n) → between 1 128 (min n number_limit) ≡ false
    by (inl lt) = let e : min n number_limit ≡ n = omega arith in ap (λ (x : ℕ). between 1 128 x) e ∙ h
    by (inr le) = large (min n number_limit) (omega arith)

-- a flaw gives its fault
pub flaw_fails : (f : Flaw) (after : List ℕ) (n : ℕ) (tokens : List Token) → IsFlaw f after → Closes (run (at Between (number n) tokens) (flaw_text f ++ after)) tokens (Err (fault_of f (number n)))
flaw_fails (Stray b) after n tokens h = fails_by _ (faults.BadByte (number n)) after (number n) tokens (ap close (begins_as class.Odd b after (number n) tokens h))
flaw_fails StraySlash after n tokens h = fails_by _ (faults.BadByte (number n)) after (number n) tokens
    (ap close (begins_as class.Slash 47 after (number n) tokens slash_is) ∙ ends (at AtSlash (number n) tokens) after (slash_off after h.0 h.1))
flaw_fails StrayTick after n tokens h = subst (λ (m : Machine). Closes m tokens (Err (faults.BadByte (number n)))) (sym (begins_as class.Tick 96 after (number n) tokens tick_is)) (tick_fails after (number n) tokens h)
flaw_fails StrayBackslash after n tokens h = fails_by _ (faults.BadByte (number n)) after (number n) tokens
    (ap close (begins_as class.Backslash 92 after (number n) tokens backslash_is) ∙ ends (at AtBackslash (number n) tokens) after h)
flaw_fails (CutName first more odd) after n tokens h = fails_by _ (faults.BadByte (number n)) after (number n) tokens
    (ap (λ (x : List ℕ). close (run (at Between (number n) tokens) (92 ∷ first ∷ x))) (append_assoc more (odd ∷ []) after)
    ∙ ap close (escaped_begins first more (odd ∷ after) (number n) tokens h.0 ∙ ap (λ (m : Machine). run m after) (odd_step (kept (first ∷ more)) odd (number n) tokens h.1)))
flaw_fails (LongWord first more) after n tokens h = fails_by _ (faults.LongName (number n)) after (number n) tokens
    (ap close (word_begins first more after (number n) tokens h.0 h.1)
    ∙ ends (at (InName (kept (first ∷ more))) (number n) tokens) after h.2
    ∙ checked_no (is_short (kept (first ∷ more))) (word_kind (kept (first ∷ more))) (faults.LongName (number n)) after (number n) tokens (short_no (first ∷ more) h.3))
flaw_fails (LongEscaped first more) after n tokens h = fails_by _ (faults.LongName (number n)) after (number n) tokens
    (ap close (escaped_begins first more after (number n) tokens h.0)
    ∙ ends (at (InEscaped (kept (first ∷ more))) (number n) tokens) after (escaped_off after (kept (first ∷ more)) h.1 h.2)
    ∙ checked_no (is_short (kept (first ∷ more))) (kinds.Name (kept (first ∷ more))) (faults.LongName (number n)) after (number n) tokens (short_no (first ∷ more) h.3))
flaw_fails (LargeNumber p) after n tokens h = fails_by _ (faults.BadNumber (number n)) after (number n) tokens
    (ap close (plain_goes p after (number n) tokens h.0)
    ∙ ends (at (InNumber (min (plain_value p) number_limit)) (number n) tokens) after (number_off (min (plain_value p) number_limit) after h.1 h.2)
    ∙ checked_no (nat_lt (min (plain_value p) number_limit) number_limit) (kinds.Number (min (plain_value p) number_limit)) (faults.BadNumber (number n)) after (number n) tokens (number_large (plain_value p) h.3))
flaw_fails (BadSize p) after n tokens h = fails_by _ (faults.BadNumber (number n)) after (number n) tokens
    (ap (λ (x : List ℕ). close (run (at Between (number n) tokens) x)) (append_assoc (plain_text p) (39 ∷ []) after)
    ∙ ap close (plain_goes p (39 ∷ after) (number n) tokens h.0 ∙ quote_goes (min (plain_value p) number_limit) after (number n) tokens
    ∙ ap (λ (t : Bool). run (at (cond t (AtQuote false (min (plain_value p) number_limit)) (Failed (faults.BadNumber (number n)))) (number n) tokens) after) (size_stays (plain_value p) h.1)))
flaw_fails (NoBase head) after n tokens h = fails_by _ (faults.BadNumber (number n)) after (number n) tokens
    (ap close (head_goes head after (number n) tokens h.0)
    ∙ ends (at (AtQuote (is_signed head.sign) (head_size head)) (number n) tokens) after (quote_off head.sign after (head_size head) h.1 h.2))
flaw_fails (NoDigit head letter base) after n tokens h = fails_by _ (faults.BadNumber (number n)) after (number n) tokens
    (ap (λ (x : List ℕ). close (run (at Between (number n) tokens) x)) (append_assoc (head_text head) (letter ∷ []) after)
    ∙ ap close (head_goes head (letter ∷ after) (number n) tokens h.0 ∙ letter_goes (is_signed head.sign) (head_size head) letter base after (number n) tokens h.1)
    ∙ ends (at (AtBase (head_size head) base) (number n) tokens) after h.2)
flaw_fails (OddDigit l bad) after n tokens h =
    let v : ℕ = min (literal_value l) constant_limit in
    fails_by _ (faults.BadNumber (number n)) after (number n) tokens
    (ap (λ (x : List ℕ). close (run (at Between (number n) tokens) x)) (append_assoc (literal_text l) (bad ∷ []) after)
    ∙ ap close (literal_goes l (bad ∷ after) (number n) tokens h.0
    ∙ goes (at (InConstant (head_size l.head) l.base v) (number n) tokens) bad after h.1
    ∙ ap (λ (t : Bool). run (at (cond t (InConstant (head_size l.head) l.base (min (with_digit (radix_of l.base) v bad) constant_limit)) (Failed (faults.BadNumber (number n)))) (number n) tokens) after) h.2))
flaw_fails (LargeConstant l) after n tokens h =
    let v : ℕ = min (literal_value l) constant_limit in
    fails_by _ (faults.BadNumber (number n)) after (number n) tokens
    (ap close (literal_goes l after (number n) tokens h.0)
    ∙ ends (at (InConstant (head_size l.head) l.base v) (number n) tokens) after h.1
    ∙ checked_no (nat_lt v (2 ^ min (head_size l.head) 128)) (kinds.Const (head_size l.head) v) (faults.BadNumber (number n)) after (number n) tokens (fits_no (literal_value l) (head_size l.head) (in_range (head_size l.head) h.0.head.in_range) h.2))
flaw_fails (Open fence body) after n tokens h =
    let e : body ++ after ≡ body = ap (λ (x : List ℕ). body ++ x) h.0 ∙ append-nil body in
    subst (λ (m : Machine). Closes m tokens (Err (faults.OpenComment (number n))))
    (sym (ap (λ (x : List ℕ). run (at Between (number n) tokens) (opener fence ∷ 42 ∷ x)) e ∙ begin_fence fence body (number n) tokens))
    (open_run fence Outside false body (number n) n tokens h.1)

-- ---- whole texts

stop_gives : (n : ℕ) (last : List ℕ) (end : Result ℕ LexFault) (tokens : List Token) → IsEnd n last end → Closes (run (at Between (number n) tokens) last) tokens end
stop_gives n last (Ok line) tokens h = closes_by _ (at Between (number n) tokens) tokens _ (ap (λ (x : List ℕ). close (run (at Between (number n) tokens) x)) h.0)
    (record { tokens_are = refl; end_is = ap (λ (x : ℕ). Ok x) (sym h.1) })
stop_gives n last (Err fault) tokens h =
    subst (λ (f : LexFault). Closes (run (at Between (number n) tokens) last) tokens (Err f)) (sym h.named)
    (subst (λ (x : List ℕ). Closes (run (at Between (number n) tokens) x) tokens (Err (fault_of h.flaw (number n)))) (sym h.spelt) (flaw_fails h.flaw h.after n tokens h.is_flaw))

pub text_gives : (ls : List Lexeme) (last : List ℕ) (n : ℕ) (end : Result ℕ LexFault) (tokens : List Token) → Each ls last → IsEnd (feeds_of n ls) last end
    → Closes (run (at Between (number n) tokens) (text_of ls last)) (tokens ++ tokens_of n ls) end
text_gives [] last n end tokens each stops = subst (λ (x : List Token). Closes (run (at Between (number n) tokens) last) x end) (sym (append-nil tokens)) (stop_gives n last end tokens stops)
text_gives (l ∷ ls) last n end tokens each stops =
    closes_by (run (at Between (number n) tokens) (spelling l ++ text_of ls last)) (run (at Between (number (n + feeds (spelling l))) (tokens ++ token_of n l)) (text_of ls last))
    (tokens ++ (token_of n l ++ tokens_of (n + feeds (spelling l)) ls)) end (lexeme_goes l (text_of ls last) n tokens each.0)
    (subst (λ (x : List Token). Closes (run (at Between (number (n + feeds (spelling l))) (tokens ++ token_of n l)) (text_of ls last)) x end)
    (append_assoc tokens (token_of n l) (tokens_of (n + feeds (spelling l)) ls))
    (text_gives ls last (n + feeds (spelling l)) end (tokens ++ token_of n l) each.1 stops))

-- what a text denotes is what the machine gives for it
pub denoted_gives : (text : List ℕ) (tokens : List Token) (end : Result ℕ LexFault) → Denotes text tokens end → Closes (run start text) tokens end
denoted_gives text tokens end d =
    let g = text_gives d.lexemes d.last 0 end [] d.each d.stops in
    let t = ap (λ (x : List ℕ). close (run start x)) d.spelt in
    record {
      tokens_are = ap (λ (x : Machine). x.tokens) t ∙ g.tokens_are ∙ sym d.given_tokens;
      end_is = ap (λ (x : Machine). answer_by x.now.mode x.now.line) t ∙ g.end_is;
    }

-- a text denotes one thing at most
pub denoted_once : (text : List ℕ) (tokens others : List Token) (end other : Result ℕ LexFault) → Denotes text tokens end → Denotes text others other → (tokens ≡ others) × (end ≡ other)
denoted_once text tokens others end other d e =
    let a = denoted_gives text tokens end d in
    let b = denoted_gives text others other e in
    (sym a.tokens_are ∙ b.tokens_are, sym a.end_is ∙ b.end_is)
