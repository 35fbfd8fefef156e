-- How lines say numbers: in decimal digits, and in eight hexadecimal ones. It is this project's own.
use Rattle.std.specs.Prelude.{ℕ, List, ◌++◌, codes, decimal}
use Rattle.std.specs.Int.{w32, to_be_bytes}
use Rattle.hex.specs.Hex.{encode_lower}

-- numbers of lines are below this one
abbrev pub field_limit : ℕ
field_limit = 4294967296

-- eight hexadecimal digits in lower case, the most significant first
unfoldable pub hex_of : ℕ → List ℕ
hex_of n = encode_lower (to_be_bytes w32 n)

-- a number as a further word: a space, and its decimal digits
abbrev pub number_word : ℕ → List ℕ
number_word n = codes " " ++ decimal n

-- as a further word in hexadecimal digits
abbrev pub hex_word : ℕ → List ℕ
hex_word n = codes " " ++ hex_of n
