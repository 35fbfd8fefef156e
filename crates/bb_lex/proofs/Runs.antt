-- The machine's run over what a text is made of.
use Rattle.std.proofs.Common.{◌≡◌, ℕ, ◌+◌, ◌*◌, ◌<◌, ◌≤◌, min, nat_lt, length, take, Bool, true, false, not, cond, ◌&&◌, ◌||◌, ◌==◌, ◌⊎◌, is_some, List, [], ◌∷◌, ◌++◌, Option, Some, Result, Err, refl, sym, ap, subst, ◌∙◌, append_assoc, append-nil, length-append, arith, inl, inr}
use Rattle.std.proofs.lemmas.Bool.{cases_lt}
use Rattle.std.proofs.lemmas.Bool.Decides.{nat_tests}
use Rattle.std.proofs.lemmas.List.{take_all, take-append-le, length-take}
use Rattle.bb_lex.specs.declared.bytes.Class.{Class}
use Rattle.bb_lex.specs.declared.bytes.Class.TheVariants as class
use Rattle.bb_lex.specs.declared.bytes.Base.{Base}
use Rattle.bb_lex.specs.declared.lexer.Fence.{Fence}
use Rattle.bb_lex.specs.declared.lexer.Fence.TheVariants.{Comment, Attribute}
use Rattle.bb_lex.specs.declared.lexer.Place.{Place}
use Rattle.bb_lex.specs.declared.lexer.Place.TheVariants.{Outside, InString, Slashed}
use Rattle.bb_base.specs.declared.lex_fault.LexFault.{LexFault}
use Rattle.bb_base.specs.declared.lex_fault.LexFault.TheVariants as faults
use Rattle.bb_base.specs.declared.token.Token.{Token}
use Rattle.bb_base.specs.Name.{is_name_byte}
use Rattle.bb_base.specs.Words.{is_word_byte}
use Rattle.bb_lex.specs.Bytes.{between, class_of, is_number, is_odd, is_sign, base_of, is_base, radix_of, digit_of, is_digit_or_low, with_digit, value, AllOf, begins, feed, feeds, line_after}
use Rattle.bb_lex.specs.Fences.{closer, place_after, shown, outside, has_close}
use Rattle.bb_lex.specs.Machine.{Between, InName, InNumber, AtQuote, AtBase, InConstant, AtTick, InLine, InFence, AtBackslash, InEscaped, Failed, Machine, at, number_limit, constant_limit, grown, tick_byte, goes_on, Goes, quoted, based, Ending, Ends, Spells, Breaks, is_short, ending, begun_by, act, close_as, close, begin, more, step, run, answer_by, Closes}
use Rattle.bb_lex.specs.Text.{number, is_in_line, starts_with, timescale, Plain, plain_text, plain_value, IsPlain, Head, head_text, head_size, IsSign, IsHead, Literal, literal_text, literal_value, IsLiteral}
use Rattle.bb_lex.proofs.ByteLemmas.{feed_star, digit_capped, figure_capped, number_no_quote, radix_least, figure_goes, sign_no_base, graphic_no_odd, or_false}
use Rattle.bb_base.proofs.BooleanLemmas.{or_true}
use Rattle.bb_lex.proofs.CappedLemmas.{capped_step}
use Rattle.bb_lex.proofs.Feeding.{on, off}

-- ---- one byte

begun_again : (e : Ending) (b line : ℕ) (tokens : List Token) → begin (class_of b) b (close_as e line tokens) ≡ step (close_as e line tokens) b
begun_again Ends b line tokens = refl
begun_again (Spells kind) b line tokens = refl
begun_again (Breaks fault) b line tokens = refl

close_twice : (e : Ending) (line : ℕ) (tokens : List Token) → close_as e line tokens ≡ close (close_as e line tokens)
close_twice Ends line tokens = refl
close_twice (Spells kind) line tokens = refl
close_twice (Breaks fault) line tokens = refl

-- what has begun ends where the text doesn't go on with it
pub ends : (m : Machine) (after : List ℕ) → begins (goes_on m.now.mode) after ≡ false → close (run m after) ≡ close (run (close m) after)
ends m [] h = close_twice (ending m.now.mode m.now.line) m.now.line m.tokens
ends m (b ∷ after) h = ap (λ (x : Machine). close (run x after)) (off m b h ∙ begun_again (ending m.now.mode m.now.line) b m.now.line m.tokens)

-- what a byte of a known class begins
pub begins_as : (c : Class) (b : ℕ) (text : List ℕ) (line : ℕ) (tokens : List Token) → class_of b ≡ c
    → run (at Between line tokens) (b ∷ text) ≡ run (act (begun_by c b line) line tokens) text
begins_as c b text line tokens h = ap (λ (x : Class). run (act (begun_by x b line) line tokens) text) h

-- a byte that is part of what has begun
pub goes : (m : Machine) (b : ℕ) (text : List ℕ) → goes_on m.now.mode b ≡ true → run m (b ∷ text) ≡ run (more b m) text
goes m b text h = ap (λ (x : Machine). run x text) (on m b h)

-- a failed machine stays as it is
pub failed_run : (fault : LexFault) (text : List ℕ) (line : ℕ) (tokens : List Token) → run (at (Failed fault) line tokens) text ≡ at (Failed fault) line tokens
failed_run fault [] line tokens = refl
failed_run fault (b ∷ text) line tokens = failed_run fault text line tokens

-- what it closes with
pub failed_closes : (fault : LexFault) (text : List ℕ) (line : ℕ) (tokens : List Token) → Closes (run (at (Failed fault) line tokens) text) tokens (Err fault)
failed_closes fault text line tokens = subst (λ (m : Machine). Closes m tokens (Err fault)) (sym (failed_run fault text line tokens)) (record { tokens_are = refl; end_is = refl })

-- machines that close alike close with the same
pub closes_by : (m other : Machine) (tokens : List Token) (end : Result ℕ LexFault) → close m ≡ close other → Closes other tokens end → Closes m tokens end
closes_by m other tokens end e h = record {
  tokens_are = ap (λ (x : Machine). x.tokens) e ∙ h.tokens_are;
  end_is = ap (λ (x : Machine). answer_by x.now.mode x.now.line) e ∙ h.end_is;
}

-- a run that comes to a fault closes with it
pub fails_by : (m : Machine) (fault : LexFault) (rest : List ℕ) (line : ℕ) (tokens : List Token) → close m ≡ close (run (at (Failed fault) line tokens) rest) → Closes m tokens (Err fault)
fails_by m fault rest line tokens e = closes_by m (run (at (Failed fault) line tokens) rest) tokens (Err fault) e (failed_closes fault rest line tokens)

-- ---- names

-- the bytes of a name that are kept
abbrev pub kept : List ℕ → List ℕ
kept bytes = take 1025 bytes

grown_if : (bytes : List ℕ) (b : ℕ) (t : Bool) → nat_lt (length bytes) 1025 ≡ t → grown bytes b ≡ cond t (bytes ++ b ∷ []) bytes
grown_if bytes b t h = ap (λ (t : Bool). cond t (bytes ++ b ∷ []) bytes) h

less : (m n : ℕ) → m < n → nat_lt m n ≡ true
less m n h = grind (arith, nat_tests)

not_less : (m n : ℕ) → n ≤ m → nat_lt m n ≡ false
not_less m n h = grind (arith, nat_tests)

kept_step : (bytes : List ℕ) (b : ℕ) → grown (kept bytes) b ≡ kept (bytes ++ b ∷ [])
kept_step bytes b = by (cases_lt (length bytes) 1025)
  where
    by : (length bytes < 1025) ⊎ (1025 ≤ length bytes) → grown (kept bytes) b ≡ kept (bytes ++ b ∷ [])
    by (inl lt) =
        let all : kept bytes ≡ bytes = take_all 1025 bytes (omega arith) in
        let more : kept (bytes ++ b ∷ []) ≡ bytes ++ b ∷ [] = take_all 1025 (bytes ++ b ∷ []) (omega (arith, length-append bytes (b ∷ []))) in
        ap (λ (x : List ℕ). grown x b) all ∙ grown_if bytes b true (less (length bytes) 1025 lt) ∙ sym more
    by (inr le) =
        let long : length (kept bytes) ≡ 1025 = omega (arith, length-take 1025 bytes) in
        grown_if (kept bytes) b false (not_less (length (kept bytes)) 1025 (omega arith)) ∙ sym (take-append-le 1025 bytes (b ∷ []) le)

-- a simple name with more bytes of it
pub word_run : (bytes rest after : List ℕ) (line : ℕ) (tokens : List Token) → AllOf is_word_byte rest
    → run (at (InName (kept bytes)) line tokens) (rest ++ after) ≡ run (at (InName (kept (bytes ++ rest))) line tokens) after
word_run bytes [] after line tokens h = ap (λ (x : List ℕ). run (at (InName (kept x)) line tokens) after) (sym (append-nil bytes))
word_run bytes (b ∷ rest) after line tokens h = goes (at (InName (kept bytes)) line tokens) b (rest ++ after) h.0
    ∙ ap (λ (x : List ℕ). run (at (InName x) line tokens) (rest ++ after)) (kept_step bytes b)
    ∙ word_run (bytes ++ b ∷ []) rest after line tokens h.1
    ∙ ap (λ (x : List ℕ). run (at (InName (kept x)) line tokens) after) (append_assoc bytes (b ∷ []) rest)

escaped_step : (bytes : List ℕ) (b line : ℕ) (tokens : List Token) → is_name_byte b ≡ true → step (at (InEscaped bytes) line tokens) b ≡ at (InEscaped (grown bytes b)) line tokens
escaped_step bytes b line tokens h = on (at (InEscaped bytes) line tokens) b (ap (λ (t : Bool). t || is_odd b) h)
    ∙ ap (λ (t : Bool). at (cond t (Failed (faults.BadByte line)) (InEscaped (grown bytes b))) line tokens) (graphic_no_odd b h)

-- an escaped name with more bytes of it
pub escaped_run : (bytes rest after : List ℕ) (line : ℕ) (tokens : List Token) → AllOf is_name_byte rest
    → run (at (InEscaped (kept bytes)) line tokens) (rest ++ after) ≡ run (at (InEscaped (kept (bytes ++ rest))) line tokens) after
escaped_run bytes [] after line tokens h = ap (λ (x : List ℕ). run (at (InEscaped (kept x)) line tokens) after) (sym (append-nil bytes))
escaped_run bytes (b ∷ rest) after line tokens h = ap (λ (m : Machine). run m (rest ++ after)) (escaped_step (kept bytes) b line tokens h.0)
    ∙ ap (λ (x : List ℕ). run (at (InEscaped x) line tokens) (rest ++ after)) (kept_step bytes b)
    ∙ escaped_run (bytes ++ b ∷ []) rest after line tokens h.1
    ∙ ap (λ (x : List ℕ). run (at (InEscaped (kept x)) line tokens) after) (append_assoc bytes (b ∷ []) rest)

-- an escaped name from its backslash on
pub begin_escaped : (first : ℕ) (rest after : List ℕ) (line : ℕ) (tokens : List Token) → AllOf is_name_byte (first ∷ rest)
    → run (at AtBackslash line tokens) (first ∷ (rest ++ after)) ≡ run (at (InEscaped (kept (first ∷ rest))) line tokens) after
begin_escaped first rest after line tokens h = goes (at AtBackslash line tokens) first (rest ++ after) h.0 ∙ escaped_run (first ∷ []) rest after line tokens h.1

-- an escaped name goes on with no white space
pub escaped_off : (after bytes : List ℕ) → begins is_name_byte after ≡ false → begins is_odd after ≡ false → begins (goes_on (InEscaped bytes)) after ≡ false
escaped_off [] bytes h k = refl
escaped_off (b ∷ after) bytes h k = ap (λ (t : Bool). t || is_odd b) h ∙ k

-- an odd byte cuts an escaped name off
pub odd_step : (bytes : List ℕ) (b line : ℕ) (tokens : List Token) → is_odd b ≡ true → step (at (InEscaped bytes) line tokens) b ≡ at (Failed (faults.BadByte line)) line tokens
odd_step bytes b line tokens h = on (at (InEscaped bytes) line tokens) b (ap (λ (t : Bool). is_name_byte b || t) h ∙ or_true (is_name_byte b))
    ∙ ap (λ (t : Bool). at (cond t (Failed (faults.BadByte line)) (InEscaped (grown bytes b))) line tokens) h

-- a name that isn't too long is kept whole
pub kept_short : (bytes : List ℕ) → length bytes ≤ 1024 → kept bytes ≡ bytes
kept_short bytes h = take_all 1025 bytes (omega arith)

-- a name of 1 to 1,024 bytes keeps its rule
pub short_yes : (first : ℕ) (more : List ℕ) → length (first ∷ more) ≤ 1024 → is_short (first ∷ more) ≡ true
short_yes first more h = by (length (first ∷ more)) (omega arith) h
  where
    by : (n : ℕ) → 1 ≤ n → n ≤ 1024 → between 1 1024 n ≡ true
    by n h k = grind (arith, nat_tests)

-- a longer one doesn't
pub short_no : (bytes : List ℕ) → 1024 < length bytes → is_short (kept bytes) ≡ false
short_no bytes h = by (length (kept bytes)) (omega (arith, length-take 1025 bytes))
  where
    by : (n : ℕ) → 1024 < n → between 1 1024 n ≡ false
    by n h = grind (arith, nat_tests)

-- ---- numbers

capped_by : (limit r n b : ℕ) (t : Bool) → 2 ≤ r → min (cond t (min n limit) (min n limit * r + digit_of b)) limit ≡ min (cond t n (n * r + digit_of b)) limit
capped_by limit r n b true h = omega arith
capped_by limit r n b false h = capped_step limit n r (digit_of b) h

-- one more digit of a number that is kept at its limit
pub capped_digit : (limit r n b : ℕ) → 2 ≤ r → min (with_digit r (min n limit) b) limit ≡ min (with_digit r n b) limit
capped_digit limit r n b h = capped_by limit r n b (b == 95) h

number_step : (n b line : ℕ) (tokens : List Token) → is_number b ≡ true → step (at (InNumber n) line tokens) b ≡ at (InNumber (min (with_digit 10 n b) number_limit)) line tokens
number_step n b line tokens h = on (at (InNumber n) line tokens) b (ap (λ (t : Bool). t || b == 39) h)
    ∙ ap (λ (t : Bool). at (cond t (quoted n line) (InNumber (min (with_digit 10 n b) number_limit))) line tokens) (number_no_quote b h)

number_run : (n : ℕ) (rest after : List ℕ) (line : ℕ) (tokens : List Token) → AllOf is_number rest
    → run (at (InNumber (min n number_limit)) line tokens) (rest ++ after) ≡ run (at (InNumber (min (value 10 n rest) number_limit)) line tokens) after
number_run n [] after line tokens h = refl
number_run n (b ∷ rest) after line tokens h = ap (λ (m : Machine). run m (rest ++ after)) (number_step (min n number_limit) b line tokens h.0)
    ∙ ap (λ (x : ℕ). run (at (InNumber x) line tokens) (rest ++ after)) (capped_digit number_limit 10 n b (omega arith))
    ∙ number_run (with_digit 10 n b) rest after line tokens h.1

-- a plain number
pub plain_goes : (p : Plain) (rest : List ℕ) (line : ℕ) (tokens : List Token) → IsPlain p
    → run (at Between line tokens) (plain_text p ++ rest) ≡ run (at (InNumber (min (plain_value p) number_limit)) line tokens) rest
plain_goes p rest line tokens h = begins_as class.Digit p.first (p.more ++ rest) line tokens h.digit
    ∙ ap (λ (x : ℕ). run (at (InNumber x) line tokens) (p.more ++ rest)) (digit_capped p.first)
    ∙ number_run (digit_of p.first) p.more rest line tokens h.digits

-- a plain number ends before what is neither a digit nor a quote
pub number_off : (n : ℕ) (after : List ℕ) → begins is_number after ≡ false → begins (λ b. b == 39) after ≡ false → begins (goes_on (InNumber n)) after ≡ false
number_off n [] h k = refl
number_off n (b ∷ after) h k = ap (λ (t : Bool). t || b == 39) h ∙ k

-- the quote after a plain number
pub quote_goes : (n : ℕ) (rest : List ℕ) (line : ℕ) (tokens : List Token) → run (at (InNumber n) line tokens) (39 ∷ rest) ≡ run (at (quoted n line) line tokens) rest
quote_goes n rest line tokens = goes (at (InNumber n) line tokens) 39 rest (or_true (is_number 39))

-- a sign stands
abbrev pub is_signed : List ℕ → Bool
is_signed [] = false
is_signed (s ∷ more) = true

sign_goes : (sign rest : List ℕ) (size line : ℕ) (tokens : List Token) → IsSign sign
    → run (at (AtQuote false size) line tokens) (sign ++ rest) ≡ run (at (AtQuote (is_signed sign) size) line tokens) rest
sign_goes [] rest size line tokens h = refl
sign_goes (s ∷ []) rest size line tokens h = goes (at (AtQuote false size) line tokens) s rest (ap (λ (t : Bool). is_base s || t) h ∙ or_true (is_base s))
    ∙ ap (λ (o : Option Base). run (at (based o size) line tokens) rest) (sign_no_base s h)
sign_goes (s ∷ t ∷ more_bytes) rest size line tokens h = absurd h

size_kept : (n : ℕ) → between 1 128 n ≡ true → min n number_limit ≡ n
size_kept n h = grind (arith, nat_tests)

-- the front of a constant
pub head_goes : (h : Head) (rest : List ℕ) (line : ℕ) (tokens : List Token) → IsHead h
    → run (at Between line tokens) (head_text h ++ rest) ≡ run (at (AtQuote (is_signed h.sign) (head_size h)) line tokens) rest
head_goes h rest line tokens k =
    ap (run (at Between line tokens)) (append_assoc (plain_text h.size) (39 ∷ h.sign) rest)
    ∙ plain_goes h.size (39 ∷ (h.sign ++ rest)) line tokens k.plain
    ∙ ap (λ (x : ℕ). run (at (InNumber x) line tokens) (39 ∷ (h.sign ++ rest))) (size_kept (head_size h) k.in_range)
    ∙ quote_goes (head_size h) (h.sign ++ rest) line tokens
    ∙ ap (λ (t : Bool). run (at (cond t (AtQuote false (head_size h)) (Failed (faults.BadNumber line))) line tokens) (h.sign ++ rest)) k.in_range
    ∙ sign_goes h.sign rest (head_size h) line tokens k.sign

-- the letter of a constant's base
pub letter_goes : (signed : Bool) (size letter : ℕ) (base : Base) (rest : List ℕ) (line : ℕ) (tokens : List Token) → base_of letter ≡ Some base
    → run (at (AtQuote signed size) line tokens) (letter ∷ rest) ≡ run (at (AtBase size base) line tokens) rest
letter_goes signed size letter base rest line tokens h = goes (at (AtQuote signed size) line tokens) letter rest (ap (λ (o : Option Base). is_some o || (not signed && is_sign letter)) h)
    ∙ ap (λ (o : Option Base). run (at (based o size) line tokens) rest) h

constant_step : (size : ℕ) (base : Base) (n b line : ℕ) (tokens : List Token) → is_digit_or_low base b ≡ true
    → step (at (InConstant size base n) line tokens) b ≡ at (InConstant size base (min (with_digit (radix_of base) n b) constant_limit)) line tokens
constant_step size base n b line tokens h = on (at (InConstant size base n) line tokens) b (figure_goes base b h)
    ∙ ap (λ (t : Bool). at (cond t (InConstant size base (min (with_digit (radix_of base) n b) constant_limit)) (Failed (faults.BadNumber line))) line tokens) h

constant_run : (size : ℕ) (base : Base) (n : ℕ) (rest after : List ℕ) (line : ℕ) (tokens : List Token) → AllOf (is_digit_or_low base) rest
    → run (at (InConstant size base (min n constant_limit)) line tokens) (rest ++ after) ≡ run (at (InConstant size base (min (value (radix_of base) n rest) constant_limit)) line tokens) after
constant_run size base n [] after line tokens h = refl
constant_run size base n (b ∷ rest) after line tokens h = ap (λ (m : Machine). run m (rest ++ after)) (constant_step size base (min n constant_limit) b line tokens h.0)
    ∙ ap (λ (x : ℕ). run (at (InConstant size base x) line tokens) (rest ++ after)) (capped_digit constant_limit (radix_of base) n b (radix_least base))
    ∙ constant_run size base (with_digit (radix_of base) n b) rest after line tokens h.1

-- a constant
pub literal_goes : (l : Literal) (rest : List ℕ) (line : ℕ) (tokens : List Token) → IsLiteral l
    → run (at Between line tokens) (literal_text l ++ rest) ≡ run (at (InConstant (head_size l.head) l.base (min (literal_value l) constant_limit)) line tokens) rest
literal_goes l rest line tokens h =
    ap (run (at Between line tokens)) (append_assoc (head_text l.head) (l.letter ∷ l.first ∷ l.more) rest)
    ∙ head_goes l.head (l.letter ∷ l.first ∷ (l.more ++ rest)) line tokens h.head
    ∙ letter_goes (is_signed l.head.sign) (head_size l.head) l.letter l.base (l.first ∷ (l.more ++ rest)) line tokens h.base
    ∙ goes (at (AtBase (head_size l.head) l.base) line tokens) l.first (l.more ++ rest) h.digit
    ∙ ap (λ (x : ℕ). run (at (InConstant (head_size l.head) l.base x) line tokens) (l.more ++ rest)) (figure_capped l.first)
    ∙ constant_run (head_size l.head) l.base (digit_of l.first) l.more rest line tokens h.digits

-- ---- lines

-- a comment to the line's end
pub line_run : (body after : List ℕ) (line : ℕ) (tokens : List Token) → AllOf is_in_line body → run (at InLine line tokens) (body ++ after) ≡ run (at InLine line tokens) after
line_run [] after line tokens h = refl
line_run (b ∷ body) after line tokens h = goes (at InLine line tokens) b (body ++ after) h.0 ∙ line_run body after line tokens h.1

-- the machine spells these bytes after so many of them
abbrev Fits : ℕ → List ℕ → Type 0
Fits n [] = ⊥
Fits n (c ∷ []) = (tick_byte n ≡ c) × (nat_lt n 8 ≡ false)
Fits n (c ∷ d ∷ cs) = (tick_byte n ≡ c) × (nat_lt n 8 ≡ true) × Fits (n + 1) (d ∷ cs)

fits : Fits 0 timescale
unfolding tick_byte
fits = (refl, refl, (refl, refl, (refl, refl, (refl, refl, (refl, refl, (refl, refl, (refl, refl, (refl, refl, (refl, refl)))))))))

same_yes : (b c : ℕ) → b ≡ c → (b == c) ≡ true
same_yes b c h = grind (arith, nat_tests)

tick_step : (n c : ℕ) (next : Bool) (text : List ℕ) (line : ℕ) (tokens : List Token) → tick_byte n ≡ c → nat_lt n 8 ≡ next
    → run (at (AtTick n) line tokens) (c ∷ text) ≡ run (at (cond next (AtTick (n + 1)) InLine) line tokens) text
tick_step n c next text line tokens h k = goes (at (AtTick n) line tokens) c text (same_yes c (tick_byte n) (sym h))
    ∙ ap (λ (t : Bool). run (at (cond t (AtTick (n + 1)) InLine) line tokens) text) k

tick_run : (n : ℕ) (cs after : List ℕ) (line : ℕ) (tokens : List Token) → Fits n cs → run (at (AtTick n) line tokens) (cs ++ after) ≡ run (at InLine line tokens) after
tick_run n [] after line tokens h = absurd h
tick_run n (c ∷ []) after line tokens h = tick_step n c false after line tokens h.0 h.1
tick_run n (c ∷ d ∷ cs) after line tokens h = tick_step n c true (d ∷ (cs ++ after)) line tokens h.0 h.1 ∙ tick_run (n + 1) (d ∷ cs) after line tokens h.2

-- `timescale` leads to the line's end
pub tick_goes : (after : List ℕ) (line : ℕ) (tokens : List Token) → run (at (AtTick 0) line tokens) (timescale ++ after) ≡ run (at InLine line tokens) after
tick_goes after line tokens = tick_run 0 timescale after line tokens fits

tick_stops : (n b : ℕ) (text : List ℕ) (line : ℕ) (tokens : List Token) → (b == tick_byte n) ≡ false → Closes (run (at (AtTick n) line tokens) (b ∷ text)) tokens (Err (faults.BadByte line))
tick_stops n b text line tokens h = fails_by (run (at (AtTick n) line tokens) (b ∷ text)) (faults.BadByte line) (b ∷ text) line tokens (ends (at (AtTick n) line tokens) (b ∷ text) h)

same_is : (b c : ℕ) → (b == c) ≡ true → b ≡ c
same_is b c h = grind (arith, nat_tests)

tick_off : (n : ℕ) (cs text : List ℕ) (line : ℕ) (tokens : List Token) → Fits n cs → starts_with cs text ≡ false → Closes (run (at (AtTick n) line tokens) text) tokens (Err (faults.BadByte line))
tick_off n [] text line tokens h k = absurd h
tick_off n (c ∷ cs) [] line tokens h k = record { tokens_are = refl; end_is = refl }
tick_off n (c ∷ []) (b ∷ text) line tokens h k = by (b == c) refl k
  where
    by : (t : Bool) → (b == c) ≡ t → (t && true) ≡ false → Closes (run (at (AtTick n) line tokens) (b ∷ text)) tokens (Err (faults.BadByte line))
    by true e k = absurd cc
    by false e k = tick_stops n b text line tokens (ap (λ (x : ℕ). b == x) h.0 ∙ e)
tick_off n (c ∷ d ∷ cs) (b ∷ text) line tokens h k = by (b == c) refl k (tick_off (n + 1) (d ∷ cs) text line tokens h.2)
  where
    by : (t : Bool) → (b == c) ≡ t → (t && starts_with (d ∷ cs) text) ≡ false
        → (starts_with (d ∷ cs) text ≡ false → Closes (run (at (AtTick (n + 1)) line tokens) text) tokens (Err (faults.BadByte line)))
        → Closes (run (at (AtTick n) line tokens) (b ∷ text)) tokens (Err (faults.BadByte line))
    by true e k r = subst (λ (m : Machine). Closes m tokens (Err (faults.BadByte line)))
        (sym (ap (λ (x : ℕ). run (at (AtTick n) line tokens) (x ∷ text)) (same_is b c e) ∙ tick_step n c true text line tokens h.0 h.1)) (r k)
    by false e k r = tick_stops n b text line tokens (ap (λ (x : ℕ). b == x) h.0 ∙ e)

-- a backquote before anything else
pub tick_fails : (text : List ℕ) (line : ℕ) (tokens : List Token) → starts_with timescale text ≡ false → Closes (run (at (AtTick 0) line tokens) text) tokens (Err (faults.BadByte line))
tick_fails text line tokens h = tick_off 0 timescale text line tokens fits h

-- ---- comments and attributes

-- the bytes after a star, or not
abbrev pub lead : Bool → List ℕ → List ℕ
lead true text = 42 ∷ text
lead false text = text

-- a machine's line counted by the feeds before it
pub fed_number : (n b : ℕ) → line_after (number n) b ≡ number (n + feed b)
fed_number n b = omega arith

lead_is : (last : ℕ) (t : Bool) (text : List ℕ) → ((t && begins (λ c. c == last) text) || has_close last text) ≡ has_close last (lead t text)
lead_is last true text = refl
lead_is last false text = refl

lead_step : (last : ℕ) (star : Bool) (s : ℕ) (text : List ℕ) → (star && s == last) ≡ false → has_close last (lead star (s ∷ text)) ≡ has_close last (lead (s == 42) text)
lead_step last true s text h = ap (λ (t : Bool). t || has_close last (s ∷ text)) h ∙ lead_is last (s == 42) text
lead_step last false s text h = lead_is last (s == 42) text

no_stop : (last : ℕ) (star : Bool) (s : ℕ) (text : List ℕ) → has_close last (lead star (s ∷ text)) ≡ false → (star && s == last) ≡ false
no_stop last true s text h = (or_false (s == last) (has_close last (s ∷ text)) h).0
no_stop last false s text h = refl

fence_step : (fence : Fence) (place : Place) (star : Bool) (b from n : ℕ) (tokens : List Token) → (star && shown place b == closer fence) ≡ false
    → step (at (InFence fence place star from) (number n) tokens) b ≡ at (InFence fence (place_after fence place b) (shown place b == 42) from) (number (n + feed b)) tokens
fence_step fence place star b from n tokens h =
    ap (λ (t : Bool). act (cond t (Goes Between (number n)) (Goes (InFence fence (place_after fence place b) (shown place b == 42) from) (line_after (number n) b))) (number n) tokens) h
    ∙ ap (λ (x : ℕ). at (InFence fence (place_after fence place b) (shown place b == 42) from) x tokens) (fed_number n b)

star_stays : (fence : Fence) (star : Bool) → (star && 42 == closer fence) ≡ false
star_stays Comment true = refl
star_stays Comment false = refl
star_stays Attribute true = refl
star_stays Attribute false = refl

last_stops : (fence : Fence) (from line : ℕ) (tokens : List Token) → step (at (InFence fence (place_after fence Outside 42) true from) line tokens) (closer fence) ≡ at Between line tokens
last_stops Comment from line tokens = refl
last_stops Attribute from line tokens = refl

fence_stop : (fence : Fence) (star : Bool) (after : List ℕ) (from n : ℕ) (tokens : List Token)
    → run (at (InFence fence Outside star from) (number n) tokens) (42 ∷ closer fence ∷ after) ≡ run (at Between (number (n + 0)) tokens) after
fence_stop fence star after from n tokens =
    ap (λ (m : Machine). run m (closer fence ∷ after)) (fence_step fence Outside star 42 from n tokens (star_stays fence star))
    ∙ ap (λ (m : Machine). run m after) (last_stops fence from (number (n + feed 42)) tokens)
    ∙ ap (λ (x : ℕ). run (at Between (number (n + x)) tokens) after) feed_star

fence_end : (fence : Fence) (place : Place) (star : Bool) (after : List ℕ) (from n : ℕ) (tokens : List Token) → has_close (closer fence) (lead star (outside fence place (42 ∷ closer fence ∷ []))) ≡ true
    → run (at (InFence fence place star from) (number n) tokens) (42 ∷ closer fence ∷ after) ≡ run (at Between (number (n + 0)) tokens) after
fence_end fence Outside star after from n tokens h = fence_stop fence star after from n tokens
fence_end Comment InString true after from n tokens h = absurd cc
fence_end Comment InString false after from n tokens h = absurd cc
fence_end Attribute InString true after from n tokens h = absurd cc
fence_end Attribute InString false after from n tokens h = absurd cc
fence_end Comment Slashed true after from n tokens h = absurd cc
fence_end Comment Slashed false after from n tokens h = absurd cc
fence_end Attribute Slashed true after from n tokens h = absurd cc
fence_end Attribute Slashed false after from n tokens h = absurd cc

-- a comment or an attribute up to its first closing mark
pub fence_run : (fence : Fence) (place : Place) (star : Bool) (body after : List ℕ) (from n : ℕ) (tokens : List Token)
    → has_close (closer fence) (lead star (outside fence place (body ++ 42 ∷ []))) ≡ false
    → has_close (closer fence) (lead star (outside fence place (body ++ 42 ∷ closer fence ∷ []))) ≡ true
    → run (at (InFence fence place star from) (number n) tokens) (body ++ 42 ∷ closer fence ∷ after) ≡ run (at Between (number (n + feeds body)) tokens) after
fence_run fence place star [] after from n tokens h k = fence_end fence place star after from n tokens k
fence_run fence place star (b ∷ body) after from n tokens h k =
    let s : ℕ = shown place b in
    let next : Place = place_after fence place b in
    let stays : (star && s == closer fence) ≡ false = no_stop (closer fence) star s (outside fence next (body ++ 42 ∷ [])) h in
    let e : n + feed b + feeds body ≡ n + (feed b + feeds body) = omega arith in
    ap (λ (m : Machine). run m (body ++ 42 ∷ closer fence ∷ after)) (fence_step fence place star b from n tokens stays)
    ∙ fence_run fence next (s == 42) body after from (n + feed b) tokens
    (sym (lead_step (closer fence) star s (outside fence next (body ++ 42 ∷ [])) stays) ∙ h)
    (sym (lead_step (closer fence) star s (outside fence next (body ++ 42 ∷ closer fence ∷ [])) stays) ∙ k)
    ∙ ap (λ (x : ℕ). run (at Between (number x) tokens) after) e

-- a comment or an attribute without one
pub open_run : (fence : Fence) (place : Place) (star : Bool) (body : List ℕ) (from n : ℕ) (tokens : List Token) → has_close (closer fence) (lead star (outside fence place body)) ≡ false
    → Closes (run (at (InFence fence place star from) (number n) tokens) body) tokens (Err (faults.OpenComment from))
open_run fence place star [] from n tokens h = record { tokens_are = refl; end_is = refl }
open_run fence place star (b ∷ body) from n tokens h =
    let s : ℕ = shown place b in
    let next : Place = place_after fence place b in
    let stays : (star && s == closer fence) ≡ false = no_stop (closer fence) star s (outside fence next body) h in
    subst (λ (m : Machine). Closes (run m body) tokens (Err (faults.OpenComment from))) (sym (fence_step fence place star b from n tokens stays))
    (open_run fence next (s == 42) body from (n + feed b) tokens (sym (lead_step (closer fence) star s (outside fence next body) stays) ∙ h))
