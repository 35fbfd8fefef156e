-- The machine that reads byte by byte, with the tokens that it has given.
use Rattle.std.specs.Prelude.{◌≡◌, ℕ, ◌+◌, ◌^◌, min, nat_lt, length, Bool, true, false, not, ◌&&◌, ◌||◌, ◌==◌, if◌then◌else◌, List, [], ◌∷◌, ◌++◌, Option, Some, None, Result, Ok, Err}
use Rattle.bb_lex.specs.declared.bytes.Class.{Class}
use Rattle.bb_lex.specs.declared.bytes.Class.TheVariants as class
use Rattle.bb_lex.specs.declared.bytes.Base.{Base}
use Rattle.bb_lex.specs.declared.lexer.Fence.{Fence}
use Rattle.bb_lex.specs.declared.lexer.Fence.TheVariants.{Comment, Attribute}
use Rattle.bb_lex.specs.declared.lexer.Place.{Place}
use Rattle.bb_lex.specs.declared.lexer.Place.TheVariants.{Outside}
use Rattle.bb_base.specs.declared.token.Mark.TheVariants as marks
use Rattle.bb_base.specs.declared.lex_fault.LexFault.{LexFault}
use Rattle.bb_base.specs.declared.lex_fault.LexFault.TheVariants as faults
use Rattle.bb_base.specs.declared.token.TokenKind.{TokenKind}
use Rattle.bb_base.specs.declared.token.TokenKind.TheVariants as kinds
use Rattle.bb_base.specs.declared.token.Token.{Token}
use Rattle.bb_lex.specs.declared.lexer.Begun.{Begun}
use Rattle.bb_lex.specs.declared.lexer.Begun.TheVariants as begun
use Rattle.bb_base.specs.Name.{is_name_byte}
use Rattle.bb_base.specs.Words.{is_word_byte}
use Rattle.bb_lex.specs.Bytes.{between, class_of, is_number, is_constant, is_odd, is_sign, base_of, is_base, radix_of, digit_of, is_digit, is_digit_or_low, with_digit, line_after}
use Rattle.bb_lex.specs.Keywords.{word_kind}
use Rattle.bb_lex.specs.Fences.{closer, place_after, shown}

-- what has begun and not ended
pub data Mode : Type 0 where
  Between : Mode
  InName : (bytes : List ℕ) → Mode
  InNumber : (value : ℕ) → Mode
  AtQuote : (signed : Bool) (size : ℕ) → Mode
  AtBase : (size : ℕ) (base : Base) → Mode
  InConstant : (size : ℕ) (base : Base) (value : ℕ) → Mode
  AtTilde : Mode
  AtCaret : Mode
  AtParen : Mode
  AtSlash : Mode
  AtTick : (matched : ℕ) → Mode
  InLine : Mode
  InFence : (fence : Fence) (place : Place) (star : Bool) (from : ℕ) → Mode
  AtBackslash : Mode
  InEscaped : (bytes : List ℕ) → Mode
  Failed : (fault : LexFault) → Mode

-- what has begun, and the number of the line
pub record Lexing : Type 0 where
  pub mode : Mode
  pub line : ℕ

-- where the machine stands, and the tokens that it has given
pub record Machine : Type 0 where
  pub now : Lexing
  pub tokens : List Token

-- a machine by its parts
abbrev pub at : Mode → ℕ → List Token → Machine
at mode line tokens = record { now = record { mode = mode; line = line }; tokens = tokens }

-- one token
abbrev pub one : TokenKind → ℕ → List Token
one kind line = record { kind = kind; line = line } ∷ []

-- the first number that no plain number may have
abbrev pub number_limit : ℕ
number_limit = 2147483648

-- the first number that no constant may have
abbrev pub constant_limit : ℕ
constant_limit = 340282366920938463463374607431768211456

-- a name with one more byte, of which no more are kept than show that it is too long
abbrev pub grown : List ℕ → ℕ → List ℕ
grown bytes b = if nat_lt (length bytes) 1025 then bytes ++ b ∷ [] else bytes

-- the byte of `timescale` after so many
unfoldable pub tick_byte : ℕ → ℕ
tick_byte n =
    if n == 0 then 116 else
    if n == 1 then 105 else
    if n == 2 then 109 else
    if n == 3 then 101 else
    if n == 4 then 115 else
    if n == 5 then 99 else
    if n == 6 then 97 else
    if n == 7 then 108 else 101

-- the byte is part of what has begun
abbrev pub goes_on : Mode → ℕ → Bool
goes_on Between b = false
goes_on (InName bytes) b = is_word_byte b
goes_on (InNumber n) b = is_number b || b == 39
goes_on (AtQuote signed size) b = is_base b || (not signed && is_sign b)
goes_on (AtBase size base) b = is_digit base b
goes_on (InConstant size base n) b = is_constant b
goes_on AtTilde b = b == 94
goes_on AtCaret b = b == 126
goes_on AtParen b = b == 42
goes_on AtSlash b = b == 47 || b == 42
goes_on (AtTick matched) b = b == tick_byte matched
goes_on InLine b = not (b == 10)
goes_on (InFence fence place star from) b = true
goes_on AtBackslash b = is_name_byte b
goes_on (InEscaped bytes) b = is_name_byte b || is_odd b
goes_on (Failed fault) b = true

-- what a byte does: something goes on or fails, or a token is complete
pub data Action : Type 0 where
  Goes : (mode : Mode) (line : ℕ) → Action
  Gives : (kind : TokenKind) → Action

-- a `'` after the number: its size must be 1 to 128
abbrev pub quoted : ℕ → ℕ → Mode
quoted n line = if between 1 128 n then AtQuote false n else Failed (faults.BadNumber line)

-- a letter after the `'`: a base, or the sign
abbrev pub based : Option Base → ℕ → Mode
based (Some base) size = AtBase size base
based None size = AtQuote true size

-- the byte is part of what has begun
abbrev pub going : Mode → ℕ → ℕ → Action
going Between b line = Goes Between line
going (InName bytes) b line = Goes (InName (grown bytes b)) line
going (InNumber n) b line = Goes (if b == 39 then quoted n line else InNumber (min (with_digit 10 n b) number_limit)) line
going (AtQuote signed size) b line = Goes (based (base_of b) size) line
going (AtBase size base) b line = Goes (InConstant size base (digit_of b)) line
going (InConstant size base n) b line = Goes (if is_digit_or_low base b then InConstant size base (min (with_digit (radix_of base) n b) constant_limit) else Failed (faults.BadNumber line)) line
going AtTilde b line = Gives (kinds.Mark marks.TildeCaret)
going AtCaret b line = Gives (kinds.Mark marks.CaretTilde)
going AtParen b line = Goes (InFence Attribute Outside false line) line
going AtSlash b line = Goes (if b == 47 then InLine else InFence Comment Outside false line) line
going (AtTick matched) b line = Goes (if nat_lt matched 8 then AtTick (matched + 1) else InLine) line
going InLine b line = Goes InLine line
going (InFence fence place star from) b line = if star && shown place b == closer fence then Goes Between line
    else Goes (InFence fence (place_after fence place b) (shown place b == 42) from) (line_after line b)
going AtBackslash b line = Goes (InEscaped (b ∷ [])) line
going (InEscaped bytes) b line = Goes (if is_odd b then Failed (faults.BadByte line) else InEscaped (grown bytes b)) line
going (Failed fault) b line = Goes (Failed fault) line

-- what has begun, when it ends: nothing, a token or a fault
pub data Ending : Type 0 where
  Ends : Ending
  Spells : (kind : TokenKind) → Ending
  Breaks : (fault : LexFault) → Ending

-- a token where it keeps its rule
abbrev pub checked : Bool → TokenKind → LexFault → Ending
checked true kind fault = Spells kind
checked false kind fault = Breaks fault

-- a name may have so many bytes
abbrev pub is_short : List ℕ → Bool
is_short bytes = between 1 1024 (length bytes)

-- what has begun ends here
abbrev pub ending : Mode → ℕ → Ending
ending Between line = Ends
ending (InName bytes) line = checked (is_short bytes) (word_kind bytes) (faults.LongName line)
ending (InNumber n) line = checked (nat_lt n number_limit) (kinds.Number n) (faults.BadNumber line)
ending (AtQuote signed size) line = Breaks (faults.BadNumber line)
ending (AtBase size base) line = Breaks (faults.BadNumber line)
ending (InConstant size base n) line = checked (nat_lt n (2 ^ min size 128)) (kinds.Const size n) (faults.BadNumber line)
ending AtTilde line = Spells (kinds.Mark marks.Tilde)
ending AtCaret line = Spells (kinds.Mark marks.Caret)
ending AtParen line = Spells (kinds.Mark marks.LeftParen)
ending AtSlash line = Breaks (faults.BadByte line)
ending (AtTick matched) line = Breaks (faults.BadByte line)
ending InLine line = Ends
ending (InFence fence place star from) line = Breaks (faults.OpenComment from)
ending AtBackslash line = Breaks (faults.BadByte line)
ending (InEscaped bytes) line = checked (is_short bytes) (kinds.Name bytes) (faults.LongName line)
ending (Failed fault) line = Breaks fault

-- what a byte begins
abbrev pub begun_by : Class → ℕ → ℕ → Action
begun_by class.Letter b line = Goes (InName (b ∷ [])) line
begun_by class.Digit b line = Goes (InNumber (digit_of b)) line
begun_by class.Blank b line = Goes Between (line_after line b)
begun_by class.Slash b line = Goes AtSlash line
begun_by class.Backslash b line = Goes AtBackslash line
begun_by class.Tick b line = Goes (AtTick 0) line
begun_by class.Paren b line = Goes AtParen line
begun_by class.Tilde b line = Goes AtTilde line
begun_by class.Caret b line = Goes AtCaret line
begun_by (class.Single mark) b line = Gives (kinds.Mark mark)
begun_by class.Odd b line = Goes (Failed (faults.BadByte line)) line

-- the machine after an action
abbrev pub act : Action → ℕ → List Token → Machine
act (Goes mode after) line tokens = at mode after tokens
act (Gives kind) line tokens = at Between line (tokens ++ one kind line)

-- the machine after what has begun ended
abbrev pub close_as : Ending → ℕ → List Token → Machine
close_as Ends line tokens = at Between line tokens
close_as (Spells kind) line tokens = at Between line (tokens ++ one kind line)
close_as (Breaks fault) line tokens = at (Failed fault) line tokens

-- what has begun ends here
abbrev pub close : Machine → Machine
close m = close_as (ending m.now.mode m.now.line) m.now.line m.tokens

-- the byte begins something, unless there was a fault
abbrev pub begin_by : Mode → Class → ℕ → ℕ → List Token → Machine
begin_by (Failed fault) c b line tokens = at (Failed fault) line tokens
begin_by mode c b line tokens = act (begun_by c b line) line tokens

-- the byte begins something
abbrev pub begin : Class → ℕ → Machine → Machine
begin c b m = begin_by m.now.mode c b m.now.line m.tokens

-- the byte goes on with what has begun
abbrev pub more : ℕ → Machine → Machine
more b m = act (going m.now.mode b m.now.line) m.now.line m.tokens

-- A byte goes on with what has begun; else that ends, and the byte begins something.
abbrev pub step : Machine → ℕ → Machine
step m b = if goes_on m.now.mode b then more b m else begin (class_of b) b (close m)

-- the machine after bytes
abbrev pub run : Machine → List ℕ → Machine
run m [] = m
run m (b ∷ bytes) = run (step m b) bytes

-- what the end of the text answers
abbrev pub answer_by : Mode → ℕ → Result ℕ LexFault
answer_by (Failed fault) line = Err fault
answer_by mode line = Ok line

-- what the end of the text answers
abbrev pub answer : Machine → Result ℕ LexFault
answer m = answer_by m.now.mode m.now.line

-- where a text begins
abbrev pub start : Machine
start = at Between 1 []

-- the end of the text gives these tokens, and this answer
pub record Closes (m : Machine) (tokens : List Token) (end : Result ℕ LexFault) : Type 0 where
  pub tokens_are : (close m).tokens ≡ tokens
  pub end_is : answer (close m) ≡ end

-- a machine with tokens before its own
abbrev pub after_tokens : List Token → Machine → Machine
after_tokens earlier m = at m.now.mode m.now.line (earlier ++ m.tokens)

-- the number that a constant's digits so far spell, where none stands for too large a one
abbrev pub capped : Option ℕ → ℕ
capped (Some n) = n
capped None = constant_limit

-- the mode of the code, with the bytes of the name that has begun
abbrev pub mode_of : Begun → List ℕ → Mode
mode_of begun.Between name = Between
mode_of begun.Name name = InName name
mode_of (begun.Number n) name = InNumber n
mode_of (begun.Quote signed size) name = AtQuote signed size
mode_of (begun.Radix size base) name = AtBase size base
mode_of (begun.Constant size base n) name = InConstant size base (capped n)
mode_of begun.Tilde name = AtTilde
mode_of begun.Caret name = AtCaret
mode_of begun.Paren name = AtParen
mode_of begun.Slash name = AtSlash
mode_of (begun.Tick matched) name = AtTick matched
mode_of begun.Line name = InLine
mode_of (begun.Fenced fence place star from) name = InFence fence place star from
mode_of begun.Backslash name = AtBackslash
mode_of begun.Escaped name = InEscaped name
mode_of (begun.Failed fault) name = Failed fault

-- what the code finds at an end, unless memory ran out
abbrev pub IsEnding : Result (Option TokenKind) LexFault → Ending → Type 0
IsEnding (Ok None) e = e ≡ Ends
IsEnding (Ok (Some kind)) e = e ≡ Spells kind
IsEnding (Err (faults.BadByte line)) e = e ≡ Breaks (faults.BadByte line)
IsEnding (Err (faults.BadNumber line)) e = e ≡ Breaks (faults.BadNumber line)
IsEnding (Err (faults.LongName line)) e = e ≡ Breaks (faults.LongName line)
IsEnding (Err (faults.OpenComment line)) e = e ≡ Breaks (faults.OpenComment line)
IsEnding (Err faults.NoMemory) e = Unit {0}

-- the reader's state and its output, as a machine
abbrev pub seen : Lexing → List Token → Machine
seen now tokens = record { now = now; tokens = tokens }

-- what a call answers of where it stands
abbrev pub told : Mode → Result (Unit {0}) LexFault
told (Failed fault) = Err fault
told mode = Ok tt

-- the tokens that stood there stand there, before further ones
abbrev pub IsKept : List Token → List Token → Type 0
IsKept old new = (more : List Token) × (new ≡ old ++ more)

-- The machine stands where this run leads. Where memory ran out on the way, its tokens are a front of the run's.
abbrev pub Stands : {A : Type 0} → Result A LexFault → Machine → Machine → Type 0
Stands (Ok x) m after = after ≡ m
Stands (Err (faults.BadByte line)) m after = after ≡ m
Stands (Err (faults.BadNumber line)) m after = after ≡ m
Stands (Err (faults.LongName line)) m after = after ≡ m
Stands (Err (faults.OpenComment line)) m after = after ≡ m
Stands (Err faults.NoMemory) m after = IsKept after.tokens m.tokens
