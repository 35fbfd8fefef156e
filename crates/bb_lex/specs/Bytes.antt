-- Which bytes the parts of a text are made of.
use Rattle.std.specs.Prelude.{◌≡◌, ℕ, ◌+◌, ◌-◌, ◌*◌, min, Bool, true, false, not, nat_le, nat_lt, ◌&&◌, ◌||◌, ◌==◌, if◌then◌else◌, is_some, Option, Some, None, List, [], ◌∷◌}
use Rattle.std.specs.List.{AllByRecursion}
use Rattle.std.specs.Char.{is_ascii_whitespace}
use Rattle.bb_base.specs.Name.{is_name_byte}
use Rattle.bb_base.specs.Words.{starts_word}
use Rattle.bb_lex.specs.declared.bytes.Class.{Class}
use Rattle.bb_lex.specs.declared.bytes.Class.TheVariants.{Letter, Digit, Blank, Slash, Backslash, Tick, Paren, Tilde, Caret, Single, Odd}
use Rattle.bb_lex.specs.declared.bytes.Base.{Base}
use Rattle.bb_lex.specs.declared.bytes.Base.TheVariants.{Binary, Octal, Decimal, Hexadecimal}
use Rattle.bb_base.specs.declared.token.Mark.TheVariants as marks

-- a number from low to high
abbrev pub between : ℕ → ℕ → ℕ → Bool
between low high b = nat_le low b && nat_le b high

-- what a byte can begin: `Blank` is white space, and `Single` a mark that no longer mark begins with
unfoldable pub class_of : ℕ → Class
class_of b =
    if starts_word b then Letter else
    if between 48 57 b then Digit else
    if is_ascii_whitespace b then Blank else
    if b == 47 then Slash else
    if b == 92 then Backslash else
    if b == 96 then Tick else
    if b == 40 then Paren else
    if b == 126 then Tilde else
    if b == 94 then Caret else
    if b == 41 then Single marks.RightParen else
    if b == 91 then Single marks.LeftBracket else
    if b == 93 then Single marks.RightBracket else
    if b == 123 then Single marks.LeftBrace else
    if b == 125 then Single marks.RightBrace else
    if b == 44 then Single marks.Comma else
    if b == 59 then Single marks.Semicolon else
    if b == 58 then Single marks.Colon else
    if b == 46 then Single marks.Dot else
    if b == 61 then Single marks.Equals else
    if b == 38 then Single marks.Amp else
    if b == 124 then Single marks.Bar else
    if b == 63 then Single marks.Question else Odd

-- goes on a plain number: a digit or `_`
unfoldable pub is_number : ℕ → Bool
is_number b = between 48 57 b || b == 95

-- right after digits of a constant it belongs to them: a letter, a digit or `_`
unfoldable pub is_constant : ℕ → Bool
is_constant b = between 65 90 b || between 97 122 b || between 48 57 b || b == 95

-- neither white space nor a byte of names
unfoldable pub is_odd : ℕ → Bool
is_odd b = not (is_ascii_whitespace b || is_name_byte b)

-- `s` in either case
unfoldable pub is_sign : ℕ → Bool
is_sign b = b == 115 || b == 83

-- the base that a letter names, in either case: `b`, `o`, `d` or `h`
unfoldable pub base_of : ℕ → Option Base
base_of b =
    if b == 98 || b == 66 then Some Binary else
    if b == 111 || b == 79 then Some Octal else
    if b == 100 || b == 68 then Some Decimal else
    if b == 104 || b == 72 then Some Hexadecimal else None

-- a letter of a base
abbrev pub is_base : ℕ → Bool
is_base b = is_some (base_of b)

-- how many digits a base has
abbrev pub radix_of : Base → ℕ
radix_of Binary = 2
radix_of Octal = 8
radix_of Decimal = 10
radix_of Hexadecimal = 16

-- the value of a digit, with letters in either case, or 16
unfoldable pub digit_of : ℕ → ℕ
digit_of b = if between 48 57 b then b - 48 else if between 97 102 b then b - 87 else if between 65 70 b then b - 55 else 16

-- a digit of the base
abbrev pub is_digit : Base → ℕ → Bool
is_digit base b = nat_lt (digit_of b) (radix_of base)

-- a digit of the base, or `_`
abbrev pub is_digit_or_low : Base → ℕ → Bool
is_digit_or_low base b = b == 95 || is_digit base b

-- the number with one more digit, where `_` is none
abbrev pub with_digit : ℕ → ℕ → ℕ → ℕ
with_digit radix before b = if b == 95 then before else before * radix + digit_of b

-- the number that digits spell, after those so far
abbrev pub value : ℕ → ℕ → List ℕ → ℕ
value radix before [] = before
value radix before (b ∷ bytes) = value radix (with_digit radix before b) bytes

-- every byte passes
abbrev pub AllOf : (ℕ → Bool) → List ℕ → Type 0
AllOf p bytes = AllByRecursion (λ b. p b ≡ true) bytes

-- the first byte, if there is one, passes
abbrev pub begins : (ℕ → Bool) → List ℕ → Bool
begins p [] = false
begins p (b ∷ bytes) = p b

-- one more line feed, or none
unfoldable pub feed : ℕ → ℕ
feed b = if b == 10 then 1 else 0

-- how many line feeds the bytes have
abbrev pub feeds : List ℕ → ℕ
feeds [] = 0
feeds (b ∷ bytes) = feed b + feeds bytes

-- the number of the line after a byte, or the greatest number
abbrev pub line_after : ℕ → ℕ → ℕ
line_after line b = min (line + feed b) 4294967295
