-- Every text has a reading.
use Rattle.std.proofs.Common.{◌≡◌, ℕ, zero, suc, ◌+◌, ◌^◌, ◌<◌, ◌≤◌, length, Bool, true, false, ◌&&◌, ◌||◌, ◌==◌, ◌⊎◌, is_some, List, [], ◌∷◌, ◌++◌, Option, Some, None, Result, Ok, Err, refl, sym, ap, subst, ◌∙◌, append_assoc, append-nil, length-append, arith, inl, inr}
use Rattle.std.proofs.lemmas.Bool.{cases_lt}
use Rattle.std.proofs.lemmas.Bool.Decides.{nat_tests}
use Rattle.bb_lex.specs.declared.bytes.Class.{Class}
use Rattle.bb_lex.specs.declared.bytes.Class.TheVariants as class
use Rattle.bb_lex.specs.declared.bytes.Base.{Base}
use Rattle.bb_lex.specs.declared.lexer.Fence.{Fence}
use Rattle.bb_lex.specs.declared.lexer.Fence.TheVariants.{Comment, Attribute}
use Rattle.bb_lex.specs.declared.lexer.Place.{Place}
use Rattle.bb_lex.specs.declared.lexer.Place.TheVariants.{Outside, InString, Slashed}
use Rattle.bb_base.specs.declared.lex_fault.LexFault.{LexFault}
use Rattle.bb_base.specs.declared.token.Token.{Token}
use Rattle.bb_base.specs.Name.{is_name_byte}
use Rattle.bb_base.specs.Words.{is_word_byte}
use Rattle.bb_lex.specs.Bytes.{between, class_of, is_number, is_constant, is_odd, is_sign, base_of, is_digit, is_digit_or_low, AllOf, begins, feeds}
use Rattle.bb_lex.specs.Fences.{opener, closer, place_after, shown, outside, has_close, is_closed}
use Rattle.bb_lex.specs.Machine.{run, start, Closes}
use Rattle.bb_lex.specs.Text.{number, is_in_line, starts_with, timescale, Plain, plain_text, plain_value, IsPlain, Head, head_text, head_size, IsHead, Literal, literal_text, literal_value, IsLiteral, Lexeme, Blank, LineComment, Timescale, Fenced, Word, Escaped, Digits, Constant, Paren, Tilde, Caret, TildeCaret, CaretTilde, Single, spelling, IsLexeme, text_of, Each, tokens_of, feeds_of, Flaw, Stray, StraySlash, StrayTick, StrayBackslash, CutName, LongWord, LongEscaped, LargeNumber, BadSize, NoBase, NoDigit, OddDigit, LargeConstant, Open, flaw_text, NoSign, IsFlaw, fault_of, IsEnd, Denotes}
use Rattle.bb_base.proofs.BooleanLemmas.{or_true}
use Rattle.bb_lex.proofs.ByteLemmas.{and_true, both_false}
use Rattle.bb_lex.proofs.Spelled.{denoted_gives}

-- ---- bytes

slash_only : (b : ℕ) → class_of b ≡ class.Slash → b ≡ 47
unfolding class_of
slash_only b h = grind (arith, nat_tests)

backslash_only : (b : ℕ) → class_of b ≡ class.Backslash → b ≡ 92
unfolding class_of
backslash_only b h = grind (arith, nat_tests)

tick_only : (b : ℕ) → class_of b ≡ class.Tick → b ≡ 96
unfolding class_of
tick_only b h = grind (arith, nat_tests)

paren_only : (b : ℕ) → class_of b ≡ class.Paren → b ≡ 40
unfolding class_of
paren_only b h = grind (arith, nat_tests)

tilde_only : (b : ℕ) → class_of b ≡ class.Tilde → b ≡ 126
unfolding class_of
tilde_only b h = grind (arith, nat_tests)

caret_only : (b : ℕ) → class_of b ≡ class.Caret → b ≡ 94
unfolding class_of
caret_only b h = grind (arith, nat_tests)

same_is : (b c : ℕ) → (b == c) ≡ true → b ≡ c
same_is b c h = grind (arith, nat_tests)

-- ---- what stands at the front

-- the bytes at the front that pass
record Split (p : ℕ → Bool) (bytes : List ℕ) : Type 0 where
  front : List ℕ
  back : List ℕ
  parts : bytes ≡ front ++ back
  each : AllOf p front
  stop : begins p back ≡ false

split : (p : ℕ → Bool) (bytes : List ℕ) → Split p bytes
split p [] = record { front = []; back = []; parts = refl; each = tt; stop = refl }
split p (b ∷ bytes) = by (p b) refl (split p bytes)
  where
    by : (t : Bool) → p b ≡ t → Split p bytes → Split p (b ∷ bytes)
    by true e s = record { front = b ∷ s.front; back = s.back; parts = ap (λ (x : List ℕ). b ∷ x) s.parts; each = (e, s.each); stop = s.stop }
    by false e s = record { front = []; back = b ∷ bytes; parts = refl; each = tt; stop = e }

-- a lexeme at the front
record Front (text : List ℕ) : Type 0 where
  lexeme : Lexeme
  after : List ℕ
  parts : text ≡ spelling lexeme ++ after
  is : IsLexeme lexeme after
  shorter : length after < length text

-- a lexeme at the front, or what comes after all
abbrev Starts : ℕ → List ℕ → Type 0
Starts n text = Front text ⊎ ((end : Result ℕ LexFault) × IsEnd n text end)

fronted : (n : ℕ) (text : List ℕ) (l : Lexeme) (after : List ℕ) → text ≡ spelling l ++ after → IsLexeme l after → 1 ≤ length (spelling l) → Starts n text
fronted n text l after e h k = inl (record { lexeme = l; after = after; parts = e; is = h; shorter = omega (arith, ap length e, length-append (spelling l) after) })

flawed : (n : ℕ) (text : List ℕ) (f : Flaw) (after : List ℕ) → text ≡ flaw_text f ++ after → IsFlaw f after → Starts n text
flawed n text f after e h = inr (Err (fault_of f (number n)), record { flaw = f; after = after; spelt = e; is_flaw = h; named = refl })

-- ---- names

word_front : (n b : ℕ) (bytes : List ℕ) → class_of b ≡ class.Letter → Split is_word_byte bytes → Starts n (b ∷ bytes)
word_front n b bytes h s = by (cases_lt 1024 (length (b ∷ s.front)))
  where
    e : b ∷ bytes ≡ b ∷ (s.front ++ s.back)
    e = ap (λ (x : List ℕ). b ∷ x) s.parts

    by : (1024 < length (b ∷ s.front)) ⊎ (length (b ∷ s.front) ≤ 1024) → Starts n (b ∷ bytes)
    by (inl lt) = flawed n (b ∷ bytes) (LongWord b s.front) s.back e (h, s.each, s.stop, lt)
    by (inr le) = fronted n (b ∷ bytes) (Word b s.front) s.back e (h, s.each, s.stop, le) (omega arith)

escaped_by : (n first : ℕ) (front back bytes : List ℕ) → bytes ≡ first ∷ (front ++ back) → AllOf is_name_byte (first ∷ front) → begins is_name_byte back ≡ false → begins is_odd back ≡ false → Starts n (92 ∷ bytes)
escaped_by n first front back bytes p g e o = by (cases_lt 1024 (length (first ∷ front)))
  where
    by : (1024 < length (first ∷ front)) ⊎ (length (first ∷ front) ≤ 1024) → Starts n (92 ∷ bytes)
    by (inl lt) = flawed n (92 ∷ bytes) (LongEscaped first front) back (ap (λ (x : List ℕ). 92 ∷ x) p) (g, e, o, lt)
    by (inr le) = fronted n (92 ∷ bytes) (Escaped first front) back (ap (λ (x : List ℕ). 92 ∷ x) p) (g, e, o, le) (omega arith)

cut_by : (n first : ℕ) (front back bytes : List ℕ) → bytes ≡ first ∷ (front ++ back) → AllOf is_name_byte (first ∷ front) → begins is_odd back ≡ true → Starts n (92 ∷ bytes)
cut_by n first front [] bytes p g o = absurd cc
cut_by n first front (odd ∷ rest) bytes p g o =
    flawed n (92 ∷ bytes) (CutName first front odd) rest (ap (λ (x : List ℕ). 92 ∷ x) p ∙ ap (λ (x : List ℕ). 92 ∷ first ∷ x) (sym (append_assoc front (odd ∷ []) rest))) (g, o)

escaped_front : (n : ℕ) (bytes : List ℕ) → Split is_name_byte bytes → Starts n (92 ∷ bytes)
escaped_front n bytes s = by s.front s.back s.parts s.each s.stop
  where
    by : (front back : List ℕ) → bytes ≡ front ++ back → AllOf is_name_byte front → begins is_name_byte back ≡ false → Starts n (92 ∷ bytes)
    by [] back p g e = flawed n (92 ∷ bytes) StrayBackslash bytes refl (ap (begins is_name_byte) p ∙ e)
    by (first ∷ front) back p g e = odd (begins is_odd back) refl
      where
        odd : (t : Bool) → begins is_odd back ≡ t → Starts n (92 ∷ bytes)
        odd true o = cut_by n first front back bytes p g o
        odd false o = escaped_by n first front back bytes p g e o

-- ---- numbers and constants

value_front : (n : ℕ) (text : List ℕ) (l : Literal) (back : List ℕ) → text ≡ literal_text l ++ back → IsLiteral l → begins is_constant back ≡ false → Starts n text
value_front n text l back e h k = by (cases_lt (literal_value l) (2 ^ head_size l.head))
  where
    by : (literal_value l < 2 ^ head_size l.head) ⊎ (2 ^ head_size l.head ≤ literal_value l) → Starts n text
    by (inl lt) = fronted n text (Constant l) back e (h, k, lt) (omega (arith, length-append (head_text l.head) (l.letter ∷ l.first ∷ l.more)))
    by (inr le) = flawed n text (LargeConstant l) back e (h, k, le)

literal_front : (n : ℕ) (text : List ℕ) (l : Literal) (back : List ℕ) → text ≡ literal_text l ++ back → IsLiteral l → begins (is_digit_or_low l.base) back ≡ false → Starts n text
literal_front n text l [] e h k = value_front n text l [] e h refl
literal_front n text l (x ∷ rest) e h k = by (is_constant x) refl
  where
    by : (t : Bool) → is_constant x ≡ t → Starts n text
    by true o = flawed n text (OddDigit l x) rest (e ∙ sym (append_assoc (literal_text l) (x ∷ []) rest)) (h, o, k)
    by false o = value_front n text l (x ∷ rest) e h o

no_digit : (n : ℕ) (text : List ℕ) (h : Head) (letter : ℕ) (base : Base) (rest : List ℕ) → text ≡ head_text h ++ letter ∷ rest → IsHead h → base_of letter ≡ Some base → begins (is_digit base) rest ≡ false → Starts n text
no_digit n text h letter base rest e k b d = flawed n text (NoDigit h letter base) rest (e ∙ sym (append_assoc (head_text h) (letter ∷ []) rest)) (k, b, d)

base_front : (n : ℕ) (text : List ℕ) (h : Head) (letter : ℕ) (base : Base) (rest : List ℕ) → text ≡ head_text h ++ letter ∷ rest → IsHead h → base_of letter ≡ Some base → Starts n text
base_front n text h letter base [] e k b = no_digit n text h letter base [] e k b refl
base_front n text h letter base (d ∷ rest) e k b = by (is_digit base d) refl (split (is_digit_or_low base) rest)
  where
    by : (t : Bool) → is_digit base d ≡ t → Split (is_digit_or_low base) rest → Starts n text
    by true o s = literal_front n text (record { head = h; letter = letter; base = base; first = d; more = s.front }) s.back
        (e ∙ ap (λ (x : List ℕ). head_text h ++ letter ∷ d ∷ x) s.parts ∙ sym (append_assoc (head_text h) (letter ∷ d ∷ s.front) s.back))
        (record { head = k; base = b; digit = o; digits = s.each }) s.stop
    by false o s = no_digit n text h letter base (d ∷ rest) e k b o

head_front : (n : ℕ) (text : List ℕ) (h : Head) (rest : List ℕ) → text ≡ head_text h ++ rest → IsHead h → NoSign h.sign rest → Starts n text
head_front n text h [] e k s = flawed n text (NoBase h) [] e (k, refl, s)
head_front n text h (c ∷ rest) e k s = by (base_of c) refl
  where
    by : (o : Option Base) → base_of c ≡ o → Starts n text
    by None b = flawed n text (NoBase h) (c ∷ rest) e (k, ap (λ (o : Option Base). is_some o) b, s)
    by (Some base) b = base_front n text h c base rest e k b

quote_front : (n : ℕ) (text : List ℕ) (p : Plain) (rest : List ℕ) → text ≡ plain_text p ++ 39 ∷ rest → IsPlain p → between 1 128 (plain_value p) ≡ true → Starts n text
quote_front n text p [] e h r = head_front n text (record { size = p; sign = [] }) [] (e ∙ sym (append-nil (plain_text p ++ 39 ∷ []))) (record { plain = h; in_range = r; sign = tt }) refl
quote_front n text p (s ∷ rest) e h r = by (is_sign s) refl
  where
    by : (t : Bool) → is_sign s ≡ t → Starts n text
    by true o = head_front n text (record { size = p; sign = s ∷ [] }) rest (e ∙ sym (append_assoc (plain_text p) (39 ∷ s ∷ []) rest)) (record { plain = h; in_range = r; sign = o }) tt
    by false o = head_front n text (record { size = p; sign = [] }) (s ∷ rest) (e ∙ sym (append_assoc (plain_text p) (39 ∷ []) (s ∷ rest))) (record { plain = h; in_range = r; sign = tt }) o

size_front : (n : ℕ) (text : List ℕ) (p : Plain) (rest : List ℕ) → text ≡ plain_text p ++ 39 ∷ rest → IsPlain p → Starts n text
size_front n text p rest e h = by (between 1 128 (plain_value p)) refl
  where
    by : (t : Bool) → between 1 128 (plain_value p) ≡ t → Starts n text
    by true r = quote_front n text p rest e h r
    by false r = flawed n text (BadSize p) rest (e ∙ sym (append_assoc (plain_text p) (39 ∷ []) rest)) (h, r)

plain_front : (n : ℕ) (text : List ℕ) (p : Plain) (back : List ℕ) → text ≡ plain_text p ++ back → IsPlain p → begins is_number back ≡ false → begins (λ b. b == 39) back ≡ false → Starts n text
plain_front n text p back e h k q = by (cases_lt (plain_value p) 2147483648)
  where
    by : (plain_value p < 2147483648) ⊎ (2147483648 ≤ plain_value p) → Starts n text
    by (inl lt) = fronted n text (Digits p) back e (h, k, q, lt) (omega arith)
    by (inr le) = flawed n text (LargeNumber p) back e (h, k, q, le)

number_front : (n : ℕ) (text : List ℕ) (p : Plain) (back : List ℕ) → text ≡ plain_text p ++ back → IsPlain p → begins is_number back ≡ false → Starts n text
number_front n text p [] e h k = plain_front n text p [] e h k refl
number_front n text p (c ∷ rest) e h k = by (c == 39) refl
  where
    by : (t : Bool) → (c == 39) ≡ t → Starts n text
    by true q = size_front n text p rest (e ∙ ap (λ (x : ℕ). plain_text p ++ x ∷ rest) (same_is c 39 q)) h
    by false q = plain_front n text p (c ∷ rest) e h k q

digit_front : (n b : ℕ) (bytes : List ℕ) → class_of b ≡ class.Digit → Split is_number bytes → Starts n (b ∷ bytes)
digit_front n b bytes h s = number_front n (b ∷ bytes) (record { first = b; more = s.front }) s.back (ap (λ (x : List ℕ). b ∷ x) s.parts) (record { digit = h; digits = s.each }) s.stop

-- ---- what is dropped

-- the first closing mark
record Found (fence : Fence) (place : Place) (bytes : List ℕ) : Type 0 where
  body : List ℕ
  after : List ℕ
  parts : bytes ≡ body ++ 42 ∷ closer fence ∷ after
  before : has_close (closer fence) (outside fence place (body ++ 42 ∷ [])) ≡ false
  closed : has_close (closer fence) (outside fence place (body ++ 42 ∷ closer fence ∷ [])) ≡ true

here_at : (fence : Fence) (after : List ℕ) (c : ℕ) → (shown (place_after fence Outside 42) c == closer fence) ≡ true → Found fence Outside (42 ∷ c ∷ after)
here_at Comment after c h = record { body = []; after = after; parts = ap (λ (x : ℕ). 42 ∷ x ∷ after) (same_is c 47 h); before = refl; closed = refl }
here_at Attribute after c h = record { body = []; after = after; parts = ap (λ (x : ℕ). 42 ∷ x ∷ after) (same_is c 41 h); before = refl; closed = refl }

here_by : (fence : Fence) (place : Place) (b c : ℕ) (after : List ℕ) → (shown place b == 42) ≡ true → (shown (place_after fence place b) c == closer fence) ≡ true → Found fence place (b ∷ c ∷ after)
here_by fence Outside b c after h k =
    let e : b ≡ 42 = same_is b 42 h in
    subst (λ (x : ℕ). Found fence Outside (x ∷ c ∷ after)) (sym e) (here_at fence after c (sym (ap (λ (x : ℕ). shown (place_after fence Outside x) c == closer fence) e) ∙ k))
here_by fence InString b c after h k = absurd cc
here_by fence Slashed b c after h k = absurd cc

here : (fence : Fence) (place : Place) (b : ℕ) (bytes : List ℕ) → (shown place b == 42 && begins (λ c. c == closer fence) (outside fence (place_after fence place b) bytes)) ≡ true → Found fence place (b ∷ bytes)
here fence place b [] h = let p = and_true (shown place b == 42) false h in absurd cc
here fence place b (c ∷ after) h = let p = and_true (shown place b == 42) (shown (place_after fence place b) c == closer fence) h in here_by fence place b c after p.0 p.1

same_first : (fence : Fence) (place : Place) (p : ℕ → Bool) (body xs ys : List ℕ) (b : ℕ) → begins p (outside fence place (body ++ b ∷ xs)) ≡ begins p (outside fence place (body ++ b ∷ ys))
same_first fence place p [] xs ys b = refl
same_first fence place p (c ∷ body) xs ys b = refl

find_close : (fence : Fence) (place : Place) (bytes : List ℕ) → (has_close (closer fence) (outside fence place bytes) ≡ false) ⊎ Found fence place bytes
find_close fence place [] = inl refl
find_close fence place (b ∷ bytes) = by (shown place b == 42 && begins (λ c. c == closer fence) (outside fence next bytes)) refl (find_close fence next bytes)
  where
    next : Place
    next = place_after fence place b

    by : (t : Bool) → (shown place b == 42 && begins (λ c. c == closer fence) (outside fence (place_after fence place b) bytes)) ≡ t
        → (has_close (closer fence) (outside fence (place_after fence place b) bytes) ≡ false) ⊎ Found fence (place_after fence place b) bytes
        → (has_close (closer fence) (outside fence place (b ∷ bytes)) ≡ false) ⊎ Found fence place (b ∷ bytes)
    by true e r = inr (here fence place b bytes e)
    by false e (inl none) = inl (both_false _ _ e none)
    by false e (inr f) = inr (record {
      body = b ∷ f.body;
      after = f.after;
      parts = ap (λ (x : List ℕ). b ∷ x) f.parts;
      before = both_false _ _
          (ap (λ (t : Bool). shown place b == 42 && t) (same_first fence (place_after fence place b) (λ c. c == closer fence) f.body [] (closer fence ∷ f.after) 42
          ∙ ap (λ (x : List ℕ). begins (λ c. c == closer fence) (outside fence (place_after fence place b) x)) (sym f.parts)) ∙ e) f.before;
      closed = ap (λ (t : Bool). (shown place b == 42 && begins (λ c. c == closer fence) (outside fence (place_after fence place b) (f.body ++ 42 ∷ closer fence ∷ []))) || t) f.closed ∙ or_true _;
    })

fence_front : (n : ℕ) (fence : Fence) (bytes : List ℕ) → (is_closed fence bytes ≡ false) ⊎ Found fence Outside bytes → Starts n (opener fence ∷ 42 ∷ bytes)
fence_front n fence bytes (inl none) = flawed n (opener fence ∷ 42 ∷ bytes) (Open fence bytes) [] (sym (append-nil (opener fence ∷ 42 ∷ bytes))) (refl, none)
fence_front n fence bytes (inr f) = fronted n (opener fence ∷ 42 ∷ bytes) (Fenced fence f.body) f.after
    (ap (λ (x : List ℕ). opener fence ∷ 42 ∷ x) (f.parts ∙ sym (append_assoc f.body (42 ∷ closer fence ∷ []) f.after))) (f.before, f.closed) (omega arith)

line_front : (n : ℕ) (bytes : List ℕ) → Split is_in_line bytes → Starts n (47 ∷ 47 ∷ bytes)
line_front n bytes s = fronted n (47 ∷ 47 ∷ bytes) (LineComment s.front) s.back (ap (λ (x : List ℕ). 47 ∷ 47 ∷ x) s.parts) (s.each, s.stop) (omega arith)

slash_front : (n : ℕ) (bytes : List ℕ) → Starts n (47 ∷ bytes)
slash_front n [] = flawed n (47 ∷ []) StraySlash [] refl (refl, refl)
slash_front n (c ∷ bytes) = by (c == 47) (c == 42) refl refl
  where
    by : (s t : Bool) → (c == 47) ≡ s → (c == 42) ≡ t → Starts n (47 ∷ c ∷ bytes)
    by true t e f = subst (λ (x : ℕ). Starts n (47 ∷ x ∷ bytes)) (sym (same_is c 47 e)) (line_front n bytes (split is_in_line bytes))
    by false true e f = subst (λ (x : ℕ). Starts n (47 ∷ x ∷ bytes)) (sym (same_is c 42 f)) (fence_front n Comment bytes (find_close Comment Outside bytes))
    by false false e f = flawed n (47 ∷ c ∷ bytes) StraySlash (c ∷ bytes) refl (e, f)

paren_front : (n : ℕ) (bytes : List ℕ) → Starts n (40 ∷ bytes)
paren_front n [] = fronted n (40 ∷ []) Paren [] refl refl (omega arith)
paren_front n (c ∷ bytes) = by (c == 42) refl
  where
    by : (t : Bool) → (c == 42) ≡ t → Starts n (40 ∷ c ∷ bytes)
    by true e = subst (λ (x : ℕ). Starts n (40 ∷ x ∷ bytes)) (sym (same_is c 42 e)) (fence_front n Attribute bytes (find_close Attribute Outside bytes))
    by false e = fronted n (40 ∷ c ∷ bytes) Paren (c ∷ bytes) refl e (omega arith)

-- the bytes behind those that a text begins with
behind : (cs bytes : List ℕ) → starts_with cs bytes ≡ true → (after : List ℕ) × (bytes ≡ cs ++ after)
behind [] bytes h = (bytes, refl)
behind (c ∷ cs) [] h = absurd cc
behind (c ∷ cs) (b ∷ bytes) h =
    let p = and_true (b == c) (starts_with cs bytes) h in
    let r = behind cs bytes p.1 in
    let e : b ≡ c = same_is b c p.0 in
    (r.0, ap (λ (x : List ℕ). b ∷ x) r.1 ∙ ap (λ (x : ℕ). x ∷ (cs ++ r.0)) e)

timescale_front : (n : ℕ) (bytes after : List ℕ) → bytes ≡ timescale ++ after → Split is_in_line after → Starts n (96 ∷ bytes)
timescale_front n bytes after e s = fronted n (96 ∷ bytes) (Timescale s.front) s.back
    (ap (λ (x : List ℕ). 96 ∷ x) (e ∙ ap (λ (x : List ℕ). timescale ++ x) s.parts ∙ sym (append_assoc timescale s.front s.back))) (s.each, s.stop) (omega arith)

tick_front : (n : ℕ) (bytes : List ℕ) → Starts n (96 ∷ bytes)
tick_front n bytes = by (starts_with timescale bytes) refl
  where
    by : (t : Bool) → starts_with timescale bytes ≡ t → Starts n (96 ∷ bytes)
    by true e = let r = behind timescale bytes e in timescale_front n bytes r.0 r.1 (split is_in_line r.0)
    by false e = flawed n (96 ∷ bytes) StrayTick bytes refl e

-- ---- marks

tilde_front : (n : ℕ) (bytes : List ℕ) → Starts n (126 ∷ bytes)
tilde_front n [] = fronted n (126 ∷ []) Tilde [] refl refl (omega arith)
tilde_front n (c ∷ bytes) = by (c == 94) refl
  where
    by : (t : Bool) → (c == 94) ≡ t → Starts n (126 ∷ c ∷ bytes)
    by true e = fronted n (126 ∷ c ∷ bytes) TildeCaret bytes (ap (λ (x : ℕ). 126 ∷ x ∷ bytes) (same_is c 94 e)) tt (omega arith)
    by false e = fronted n (126 ∷ c ∷ bytes) Tilde (c ∷ bytes) refl e (omega arith)

caret_front : (n : ℕ) (bytes : List ℕ) → Starts n (94 ∷ bytes)
caret_front n [] = fronted n (94 ∷ []) Caret [] refl refl (omega arith)
caret_front n (c ∷ bytes) = by (c == 126) refl
  where
    by : (t : Bool) → (c == 126) ≡ t → Starts n (94 ∷ c ∷ bytes)
    by true e = fronted n (94 ∷ c ∷ bytes) CaretTilde bytes (ap (λ (x : ℕ). 94 ∷ x ∷ bytes) (same_is c 126 e)) tt (omega arith)
    by false e = fronted n (94 ∷ c ∷ bytes) Caret (c ∷ bytes) refl e (omega arith)

-- ---- whole texts

starts_by : (n b : ℕ) (bytes : List ℕ) (c : Class) → class_of b ≡ c → Starts n (b ∷ bytes)
starts_by n b bytes class.Letter h = word_front n b bytes h (split is_word_byte bytes)
starts_by n b bytes class.Digit h = digit_front n b bytes h (split is_number bytes)
starts_by n b bytes class.Blank h = fronted n (b ∷ bytes) (Blank b) bytes refl h (omega arith)
starts_by n b bytes class.Slash h = subst (λ (x : ℕ). Starts n (x ∷ bytes)) (sym (slash_only b h)) (slash_front n bytes)
starts_by n b bytes class.Backslash h = subst (λ (x : ℕ). Starts n (x ∷ bytes)) (sym (backslash_only b h)) (escaped_front n bytes (split is_name_byte bytes))
starts_by n b bytes class.Tick h = subst (λ (x : ℕ). Starts n (x ∷ bytes)) (sym (tick_only b h)) (tick_front n bytes)
starts_by n b bytes class.Paren h = subst (λ (x : ℕ). Starts n (x ∷ bytes)) (sym (paren_only b h)) (paren_front n bytes)
starts_by n b bytes class.Tilde h = subst (λ (x : ℕ). Starts n (x ∷ bytes)) (sym (tilde_only b h)) (tilde_front n bytes)
starts_by n b bytes class.Caret h = subst (λ (x : ℕ). Starts n (x ∷ bytes)) (sym (caret_only b h)) (caret_front n bytes)
starts_by n b bytes (class.Single mark) h = fronted n (b ∷ bytes) (Single b mark) bytes refl h (omega arith)
starts_by n b bytes class.Odd h = flawed n (b ∷ bytes) (Stray b) bytes refl h

starts : (n : ℕ) (text : List ℕ) → Starts n text
starts n [] = inr (Ok (number n), (refl, refl))
starts n (b ∷ bytes) = starts_by n b bytes (class_of b) refl

-- a text from some line on, read
record Reading (n : ℕ) (text : List ℕ) : Type 0 where
  lexemes : List Lexeme
  last : List ℕ
  end : Result ℕ LexFault
  spelt : text ≡ text_of lexemes last
  each : Each lexemes last
  stops : IsEnd (feeds_of n lexemes) last end

with_lexeme : (n : ℕ) (text : List ℕ) (f : Front text) → Reading (n + feeds (spelling f.lexeme)) f.after → Reading n text
with_lexeme n text f r = record {
  lexemes = f.lexeme ∷ r.lexemes;
  last = r.last;
  end = r.end;
  spelt = f.parts ∙ ap (λ (x : List ℕ). spelling f.lexeme ++ x) r.spelt;
  each = (subst (IsLexeme f.lexeme) r.spelt f.is, r.each);
  stops = r.stops;
}

with_starts : (n : ℕ) (text : List ℕ) → ((m : ℕ) (after : List ℕ) → length after < length text → Reading m after) → Starts n text → Reading n text
with_starts n text rest (inl f) = with_lexeme n text f (rest (n + feeds (spelling f.lexeme)) f.after f.shorter)
with_starts n text rest (inr e) = record { lexemes = []; last = text; end = e.0; spelt = refl; each = tt; stops = e.1 }

reading : (fuel n : ℕ) (text : List ℕ) → length text < fuel → Reading n text
reading zero n text h = absurd (omega arith)
reading (suc fuel) n text h = with_starts n text (λ m after s. reading fuel m after (omega arith)) (starts n text)

-- every text denotes something
pub some_denoted : (text : List ℕ) → (tokens : List Token) × (end : Result ℕ LexFault) × Denotes text tokens end
some_denoted text = let r = reading (suc (length text)) 0 text (omega arith) in
    (tokens_of 0 r.lexemes, r.end, record { lexemes = r.lexemes; last = r.last; spelt = r.spelt; each = r.each; given_tokens = refl; stops = r.stops })

-- what the machine gives for a text is what it denotes
pub gives_denoted : (text : List ℕ) (tokens : List Token) (end : Result ℕ LexFault) → Closes (run start text) tokens end → Denotes text tokens end
gives_denoted text tokens end g =
    let d = some_denoted text in
    let c = denoted_gives text d.0 d.1 d.2 in
    let t : d.0 ≡ tokens = sym c.tokens_are ∙ g.tokens_are in
    let e : d.1 ≡ end = sym c.end_is ∙ g.end_is in
    subst (λ (x : Result ℕ LexFault). Denotes text tokens x) e (subst (λ (x : List Token). Denotes text x d.1) t d.2)
