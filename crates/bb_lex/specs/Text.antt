-- What a whole text spells: lexemes one after another, and then its end, or the first thing that is no lexeme.
-- The rules are this project's profile of the lexical conventions of IEEE 1364.
use Rattle.std.specs.Prelude.{◌≡◌, ℕ, ◌+◌, ◌^◌, ◌<◌, ◌≤◌, min, length, Bool, true, false, not, ◌&&◌, ◌==◌, List, [], ◌∷◌, ◌++◌, codes, Option, Some, None, Result, Ok, Err}
use Rattle.bb_lex.specs.declared.bytes.Class.TheVariants as class
use Rattle.bb_lex.specs.declared.bytes.Base.{Base}
use Rattle.bb_lex.specs.declared.lexer.Fence.{Fence}
use Rattle.bb_base.specs.declared.token.Mark.{Mark}
use Rattle.bb_base.specs.declared.token.Mark.TheVariants as marks
use Rattle.bb_base.specs.declared.lex_fault.LexFault.{LexFault}
use Rattle.bb_base.specs.declared.lex_fault.LexFault.TheVariants as faults
use Rattle.bb_base.specs.declared.token.TokenKind.{TokenKind}
use Rattle.bb_base.specs.declared.token.TokenKind.TheVariants as kinds
use Rattle.bb_base.specs.declared.token.Token.{Token}
use Rattle.bb_base.specs.Name.{is_name_byte}
use Rattle.bb_base.specs.Words.{is_word_byte}
use Rattle.bb_lex.specs.Bytes.{between, class_of, is_number, is_constant, is_odd, is_sign, base_of, is_base, radix_of, digit_of, is_digit, is_digit_or_low, value, AllOf, begins, feeds}
use Rattle.bb_lex.specs.Keywords.{word_kind}
use Rattle.bb_lex.specs.Fences.{opener, closer, is_closed}

-- a line's number: 1 plus the line feeds before it, or the greatest number
abbrev pub number : ℕ → ℕ
number before = min (before + 1) 4294967295

-- any byte but a line feed
abbrev pub is_in_line : ℕ → Bool
is_in_line b = not (b == 10)

-- the list begins with the bytes
abbrev pub starts_with : List ℕ → List ℕ → Bool
starts_with [] bytes = true
starts_with (c ∷ cs) [] = false
starts_with (c ∷ cs) (b ∷ bytes) = b == c && starts_with cs bytes

-- the word behind a backquote whose line is dropped
abbrev pub timescale : List ℕ
timescale = codes "timescale"

-- a plain number: a digit, then digits and `_`
pub record Plain : Type 0 where
  pub first : ℕ
  pub more : List ℕ

-- its bytes
abbrev pub plain_text : Plain → List ℕ
plain_text p = p.first ∷ p.more

-- the number that it spells
abbrev pub plain_value : Plain → ℕ
plain_value p = value 10 (digit_of p.first) p.more

-- its bytes are a digit, then digits and `_`
pub record IsPlain (p : Plain) : Type 0 where
  pub digit : class_of p.first ≡ class.Digit
  pub digits : AllOf is_number p.more

-- the front of a constant: its size, the `'`, and the sign where it has one
pub record Head : Type 0 where
  pub size : Plain
  pub sign : List ℕ

-- its bytes
abbrev pub head_text : Head → List ℕ
head_text h = plain_text h.size ++ 39 ∷ h.sign

-- the size of the constant in bits
abbrev pub head_size : Head → ℕ
head_size h = plain_value h.size

-- at most one byte, an `s` in either case
abbrev pub IsSign : List ℕ → Type 0
IsSign [] = Unit {0}
IsSign (s ∷ []) = is_sign s ≡ true
IsSign (s ∷ t ∷ more) = ⊥

-- its size is 1 to 128
pub record IsHead (h : Head) : Type 0 where
  pub plain : IsPlain h.size
  pub in_range : between 1 128 (head_size h) ≡ true
  pub sign : IsSign h.sign

-- a constant: its front, the letter of its base, a digit, then digits and `_`
pub record Literal : Type 0 where
  pub head : Head
  pub letter : ℕ
  pub base : Base
  pub first : ℕ
  pub more : List ℕ

-- its bytes
abbrev pub literal_text : Literal → List ℕ
literal_text l = head_text l.head ++ l.letter ∷ l.first ∷ l.more

-- the number that its digits spell
abbrev pub literal_value : Literal → ℕ
literal_value l = value (radix_of l.base) (digit_of l.first) l.more

-- its letter names its base, and its digits are of that base
pub record IsLiteral (l : Literal) : Type 0 where
  pub head : IsHead l.head
  pub base : base_of l.letter ≡ Some l.base
  pub digit : is_digit l.base l.first ≡ true
  pub digits : AllOf (is_digit_or_low l.base) l.more

-- the productions: what is dropped, and what spells a token
pub data Lexeme : Type 0 where
  Blank : (b : ℕ) → Lexeme
  LineComment : (body : List ℕ) → Lexeme
  Timescale : (body : List ℕ) → Lexeme
  Fenced : (fence : Fence) (body : List ℕ) → Lexeme
  Word : (first : ℕ) (more : List ℕ) → Lexeme
  Escaped : (first : ℕ) (more : List ℕ) → Lexeme
  Digits : (plain : Plain) → Lexeme
  Constant : (literal : Literal) → Lexeme
  Paren : Lexeme
  Tilde : Lexeme
  Caret : Lexeme
  TildeCaret : Lexeme
  CaretTilde : Lexeme
  Single : (b : ℕ) (mark : Mark) → Lexeme

-- the bytes of a lexeme
abbrev pub spelling : Lexeme → List ℕ
spelling (Blank b) = b ∷ []
spelling (LineComment body) = 47 ∷ 47 ∷ body
spelling (Timescale body) = 96 ∷ (timescale ++ body)
spelling (Fenced fence body) = opener fence ∷ 42 ∷ (body ++ 42 ∷ closer fence ∷ [])
spelling (Word first more) = first ∷ more
spelling (Escaped first more) = 92 ∷ first ∷ more
spelling (Digits plain) = plain_text plain
spelling (Constant literal) = literal_text literal
spelling Paren = 40 ∷ []
spelling Tilde = 126 ∷ []
spelling Caret = 94 ∷ []
spelling TildeCaret = 126 ∷ 94 ∷ []
spelling CaretTilde = 94 ∷ 126 ∷ []
spelling (Single b mark) = b ∷ []

-- what holds of a lexeme's parts, and that the text after it doesn't go on with it
abbrev pub IsLexeme : Lexeme → List ℕ → Type 0
IsLexeme (Blank b) after = class_of b ≡ class.Blank
IsLexeme (LineComment body) after = AllOf is_in_line body × (begins is_in_line after ≡ false)
IsLexeme (Timescale body) after = AllOf is_in_line body × (begins is_in_line after ≡ false)
-- the first closing mark outside strings is the last
IsLexeme (Fenced fence body) after = (is_closed fence (body ++ 42 ∷ []) ≡ false) × (is_closed fence (body ++ 42 ∷ closer fence ∷ []) ≡ true)
IsLexeme (Word first more) after = (class_of first ≡ class.Letter) × AllOf is_word_byte more × (begins is_word_byte after ≡ false) × (length (first ∷ more) ≤ 1024)
-- up to white space or the end
IsLexeme (Escaped first more) after = AllOf is_name_byte (first ∷ more) × (begins is_name_byte after ≡ false) × (begins is_odd after ≡ false) × (length (first ∷ more) ≤ 1024)
IsLexeme (Digits plain) after = IsPlain plain × (begins is_number after ≡ false) × (begins (λ b. b == 39) after ≡ false) × (plain_value plain < 2147483648)
IsLexeme (Constant literal) after = IsLiteral literal × (begins is_constant after ≡ false) × (literal_value literal < 2 ^ head_size literal.head)
IsLexeme Paren after = begins (λ b. b == 42) after ≡ false
IsLexeme Tilde after = begins (λ b. b == 94) after ≡ false
IsLexeme Caret after = begins (λ b. b == 126) after ≡ false
IsLexeme TildeCaret after = Unit {0}
IsLexeme CaretTilde after = Unit {0}
IsLexeme (Single b mark) after = class_of b ≡ class.Single mark

-- the kind of a lexeme's token, where it has one
abbrev pub kind_of : Lexeme → Option TokenKind
kind_of (Blank b) = None
kind_of (LineComment body) = None
kind_of (Timescale body) = None
kind_of (Fenced fence body) = None
kind_of (Word first more) = Some (word_kind (first ∷ more))
kind_of (Escaped first more) = Some (kinds.Name (first ∷ more))
kind_of (Digits plain) = Some (kinds.Number (plain_value plain))
kind_of (Constant literal) = Some (kinds.Const (head_size literal.head) (literal_value literal))
kind_of Paren = Some (kinds.Mark marks.LeftParen)
kind_of Tilde = Some (kinds.Mark marks.Tilde)
kind_of Caret = Some (kinds.Mark marks.Caret)
kind_of TildeCaret = Some (kinds.Mark marks.TildeCaret)
kind_of CaretTilde = Some (kinds.Mark marks.CaretTilde)
kind_of (Single b mark) = Some (kinds.Mark mark)

-- a token of this kind, or none, after so many line feeds
abbrev pub tokens_by : ℕ → Option TokenKind → List Token
tokens_by before None = []
tokens_by before (Some kind) = record { kind = kind; line = number before } ∷ []

-- the token of a lexeme, where it has one
abbrev pub token_of : ℕ → Lexeme → List Token
token_of before l = tokens_by before (kind_of l)

-- the text of lexemes and what comes last
abbrev pub text_of : List Lexeme → List ℕ → List ℕ
text_of [] last = last
text_of (l ∷ ls) last = spelling l ++ text_of ls last

-- each one is a lexeme before what follows it
abbrev pub Each : List Lexeme → List ℕ → Type 0
Each [] last = Unit {0}
Each (l ∷ ls) last = IsLexeme l (text_of ls last) × Each ls last

-- the tokens of lexemes after so many line feeds
abbrev pub tokens_of : ℕ → List Lexeme → List Token
tokens_of before [] = []
tokens_of before (l ∷ ls) = token_of before l ++ tokens_of (before + feeds (spelling l)) ls

-- the line feeds up to the end of lexemes
abbrev pub feeds_of : ℕ → List Lexeme → ℕ
feeds_of before [] = before
feeds_of before (l ∷ ls) = feeds_of (before + feeds (spelling l)) ls

-- what is no lexeme: a byte that begins none, or what has begun as one and breaks its rule
pub data Flaw : Type 0 where
  Stray : (b : ℕ) → Flaw
  StraySlash : Flaw
  StrayTick : Flaw
  StrayBackslash : Flaw
  CutName : (first : ℕ) (more : List ℕ) (odd : ℕ) → Flaw
  LongWord : (first : ℕ) (more : List ℕ) → Flaw
  LongEscaped : (first : ℕ) (more : List ℕ) → Flaw
  LargeNumber : (plain : Plain) → Flaw
  BadSize : (plain : Plain) → Flaw
  NoBase : (head : Head) → Flaw
  NoDigit : (head : Head) (letter : ℕ) (base : Base) → Flaw
  OddDigit : (literal : Literal) (bad : ℕ) → Flaw
  LargeConstant : (literal : Literal) → Flaw
  Open : (fence : Fence) (body : List ℕ) → Flaw

-- the bytes that show a flaw
abbrev pub flaw_text : Flaw → List ℕ
flaw_text (Stray b) = b ∷ []
flaw_text StraySlash = 47 ∷ []
flaw_text StrayTick = 96 ∷ []
flaw_text StrayBackslash = 92 ∷ []
flaw_text (CutName first more odd) = 92 ∷ first ∷ (more ++ odd ∷ [])
flaw_text (LongWord first more) = first ∷ more
flaw_text (LongEscaped first more) = 92 ∷ first ∷ more
flaw_text (LargeNumber plain) = plain_text plain
flaw_text (BadSize plain) = plain_text plain ++ 39 ∷ []
flaw_text (NoBase head) = head_text head
flaw_text (NoDigit head letter base) = head_text head ++ letter ∷ []
flaw_text (OddDigit literal bad) = literal_text literal ++ bad ∷ []
flaw_text (LargeConstant literal) = literal_text literal
flaw_text (Open fence body) = opener fence ∷ 42 ∷ body

-- no sign stands, and the text after it doesn't begin with one, or it stands already
abbrev pub NoSign : List ℕ → List ℕ → Type 0
NoSign [] after = begins is_sign after ≡ false
NoSign (s ∷ more) after = Unit {0}

-- what holds of a flaw's parts and of the text after it
abbrev pub IsFlaw : Flaw → List ℕ → Type 0
IsFlaw (Stray b) after = class_of b ≡ class.Odd
IsFlaw StraySlash after = (begins (λ b. b == 47) after ≡ false) × (begins (λ b. b == 42) after ≡ false)
IsFlaw StrayTick after = starts_with timescale after ≡ false
IsFlaw StrayBackslash after = begins is_name_byte after ≡ false
-- an escaped name ends at white space or the text's end, and this one at another byte
IsFlaw (CutName first more odd) after = AllOf is_name_byte (first ∷ more) × (is_odd odd ≡ true)
IsFlaw (LongWord first more) after = (class_of first ≡ class.Letter) × AllOf is_word_byte more × (begins is_word_byte after ≡ false) × (1024 < length (first ∷ more))
IsFlaw (LongEscaped first more) after = AllOf is_name_byte (first ∷ more) × (begins is_name_byte after ≡ false) × (begins is_odd after ≡ false) × (1024 < length (first ∷ more))
IsFlaw (LargeNumber plain) after = IsPlain plain × (begins is_number after ≡ false) × (begins (λ b. b == 39) after ≡ false) × (2147483648 ≤ plain_value plain)
IsFlaw (BadSize plain) after = IsPlain plain × (between 1 128 (plain_value plain) ≡ false)
IsFlaw (NoBase head) after = IsHead head × (begins is_base after ≡ false) × NoSign head.sign after
IsFlaw (NoDigit head letter base) after = IsHead head × (base_of letter ≡ Some base) × (begins (is_digit base) after ≡ false)
IsFlaw (OddDigit literal bad) after = IsLiteral literal × (is_constant bad ≡ true) × (is_digit_or_low literal.base bad ≡ false)
IsFlaw (LargeConstant literal) after = IsLiteral literal × (begins is_constant after ≡ false) × (2 ^ head_size literal.head ≤ literal_value literal)
IsFlaw (Open fence body) after = (after ≡ []) × (is_closed fence body ≡ false)

-- the fault of a flaw in this line
abbrev pub fault_of : Flaw → ℕ → LexFault
fault_of (Stray b) line = faults.BadByte line
fault_of StraySlash line = faults.BadByte line
fault_of StrayTick line = faults.BadByte line
fault_of StrayBackslash line = faults.BadByte line
fault_of (CutName first more odd) line = faults.BadByte line
fault_of (LongWord first more) line = faults.LongName line
fault_of (LongEscaped first more) line = faults.LongName line
fault_of (LargeNumber plain) line = faults.BadNumber line
fault_of (BadSize plain) line = faults.BadNumber line
fault_of (NoBase head) line = faults.BadNumber line
fault_of (NoDigit head letter base) line = faults.BadNumber line
fault_of (OddDigit literal bad) line = faults.BadNumber line
fault_of (LargeConstant literal) line = faults.BadNumber line
fault_of (Open fence body) line = faults.OpenComment line

-- the text begins with a flaw, whose fault this is
pub record IsFlawed (before : ℕ) (text : List ℕ) (fault : LexFault) : Type 0 where
  pub flaw : Flaw
  pub after : List ℕ
  pub spelt : text ≡ flaw_text flaw ++ after
  pub is_flaw : IsFlaw flaw after
  pub named : fault ≡ fault_of flaw (number before)

-- what comes after all lexemes: nothing, where the answer is the last line's number, or a flaw
abbrev pub IsEnd : ℕ → List ℕ → Result ℕ LexFault → Type 0
IsEnd before last (Ok line) = (last ≡ []) × (line ≡ number before)
IsEnd before last (Err fault) = IsFlawed before last fault

-- the tokens of a text, and its last line's number or its first fault
pub record Denotes (text : List ℕ) (tokens : List Token) (end : Result ℕ LexFault) : Type 0 where
  pub lexemes : List Lexeme
  pub last : List ℕ
  pub spelt : text ≡ text_of lexemes last
  pub each : Each lexemes last
  pub given_tokens : tokens ≡ tokens_of 0 lexemes
  pub stops : IsEnd (feeds_of 0 lexemes) last end
