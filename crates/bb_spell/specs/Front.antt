-- What is read from the front of bytes, and what follows it; or nothing, where they don't begin so.
use Rattle.std.specs.Prelude.{◌≡◌, ℕ, ◌+◌, ◌-◌, ◌*◌, Bool, false, not, ◌||◌, nat_lt, ◌==◌, List, [], ◌∷◌, length, take, drop, codes, slice_index, Option, Some, None, if◌then◌else◌, Result, Ok, Err}
use Rattle.std.specs.List.{prefix_len, list_all}
use Rattle.std.specs.Char.{is_ascii_digit}
use Rattle.std.specs.Str.{bytes_eq}
use Rattle.bb_base.specs.Variables.{Bit}
use Rattle.bb_base.specs.Words.{is_word_byte}
use Rattle.bb_spell.specs.Spelling.{stands_plain}
use Rattle.bb_spell.specs.declared.scan.LineFault.{LineFault}
use Rattle.bb_spell.specs.declared.scan.LineFault.TheVariants.{NotCanonical, NoMemory}
use Rattle.bb_base.specs.Name.{is_name_byte}

infixl 10 ◌>>=◌
abbrev pub ◌>>=◌ : {A B : Type 0} → Option A → (A → Option B) → Option B
None >>= f = None
(Some x) >>= f = f x

-- what a function returned, seen by view, is what was read, unless memory ran out
abbrev pub Fails : {Y : Type 0} → LineFault → Option Y → Type 0
Fails NoMemory read = Unit {0}
Fails NotCanonical read = read ≡ None

abbrev pub IsRead : {X Y : Type 0} → (X → Y) → Result X LineFault → Option Y → Type 0
IsRead view (Ok x) read = read ≡ Some (view x)
IsRead view (Err e) read = Fails e read

-- the bytes begin with this mark
abbrev pub begins_with : List ℕ → List ℕ → Bool
begins_with mark bytes = bytes_eq (take (length mark) bytes) mark

-- what follows a mark at the front
abbrev pub after_mark : List ℕ → List ℕ → Option (List ℕ)
after_mark mark bytes = if begins_with mark bytes then Some (drop (length mark) bytes) else None

-- the value, where nothing but this end follows
abbrev pub at_end : {A : Type 0} → A → List ℕ → List ℕ → Option A
at_end x end bytes = if bytes_eq bytes end then Some x else None

-- the word at the front, and what follows it
abbrev pub word_of : List ℕ → List ℕ
word_of bytes = take (prefix_len is_word_byte bytes) bytes

abbrev pub after_word : List ℕ → List ℕ
after_word bytes = drop (prefix_len is_word_byte bytes) bytes

-- the bytes up to the first that no name has, and what follows them
abbrev pub graphic_of : List ℕ → List ℕ
graphic_of bytes = take (prefix_len is_name_byte bytes) bytes

abbrev pub after_graphic : List ℕ → List ℕ
after_graphic bytes = drop (prefix_len is_name_byte bytes) bytes

-- the bytes may be a name
abbrev pub is_name : List ℕ → Bool
is_name word = if (length word == 0) || nat_lt 1024 (length word) then false else list_all is_name_byte word

-- a name that is written as it is
abbrev pub plain_at : List ℕ → Option (List ℕ × List ℕ)
plain_at bytes = if is_name (word_of bytes) then (if stands_plain (word_of bytes) then Some (word_of bytes, after_word bytes) else None) else None

-- a name behind a backslash, and before a space
abbrev pub escaped_at : List ℕ → Option (List ℕ × List ℕ)
escaped_at bytes = if is_name (graphic_of bytes) then (if stands_plain (graphic_of bytes) then None else (after_mark (codes " ") (after_graphic bytes) >>= (λ rest. Some (graphic_of bytes, rest)))) else None

-- a name
unfoldable pub front_name : List ℕ → Option (List ℕ × List ℕ)
front_name bytes = if begins_with (codes "\\") bytes then escaped_at (drop 1 bytes) else plain_at bytes

-- indices, and the numbers of flip-flops, are below this one
abbrev pub index_limit : ℕ
index_limit = 2147483648

-- the number that decimal digits mean behind digits that mean n
abbrev pub value_after : ℕ → List ℕ → ℕ
value_after n [] = n
value_after n (c ∷ cs) = value_after (10 * n + (c - 48)) cs

-- the digits at the front, and what follows them
abbrev pub digits_of : List ℕ → List ℕ
digits_of bytes = take (prefix_len is_ascii_digit bytes) bytes

abbrev pub after_digits : List ℕ → List ℕ
after_digits bytes = drop (prefix_len is_ascii_digit bytes) bytes

-- there are digits, and no needless 0 before them
abbrev pub is_numeral : List ℕ → Bool
is_numeral digits = if length digits == 0 then false else ((length digits == 1) || not (slice_index digits 0 == 48))

-- a number below a limit
unfoldable pub number_below : ℕ → List ℕ → Option (ℕ × List ℕ)
number_below limit bytes = if is_numeral (digits_of bytes) then (if nat_lt (value_after 0 (digits_of bytes)) limit then Some (value_after 0 (digits_of bytes), after_digits bytes) else None) else None

-- an index, where there is one
unfoldable pub front_index : List ℕ → Option (Option ℕ × List ℕ)
front_index bytes = if begins_with (codes "[") bytes then (do
  n ← number_below index_limit (drop 1 bytes)
  rest ← after_mark (codes "]") n.1
  Some (Some n.0, rest)) else Some (None, bytes)

-- a bit
unfoldable pub front_bit : List ℕ → Option (Bit × List ℕ)
front_bit bytes = do
  n ← front_name bytes
  i ← front_index n.1
  Some (record { name = n.0; index = i.0 }, i.1)

-- a range, where there is one
unfoldable pub front_range : List ℕ → Option (Option (ℕ × ℕ) × List ℕ)
front_range bytes = if begins_with (codes " [") bytes then (do
  left ← number_below index_limit (drop 2 bytes)
  colon ← after_mark (codes ":") left.1
  right ← number_below index_limit colon
  rest ← after_mark (codes "]") right.1
  Some (Some (left.0, right.0), rest)) else Some (None, bytes)
