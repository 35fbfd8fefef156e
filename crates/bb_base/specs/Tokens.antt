-- Tokens that a text may have: their names are names, and their numbers in their ranges.
use Rattle.std.specs.Prelude.{ℕ, ◌^◌, ◌<◌, ◌≤◌}
use Rattle.bb_base.specs.Name.{IsName}
use Rattle.bb_base.specs.declared.token.TokenKind.{TokenKind}
use Rattle.bb_base.specs.declared.token.TokenKind.TheVariants.{Key, Name, Number, Const, Mark}
use Rattle.bb_base.specs.declared.token.Token.{Token}

-- a constant has 1 to 128 bits
abbrev pub IsSize : ℕ → Type 0
IsSize size = (1 ≤ size) × (size ≤ 128)

-- a name is one, a plain number is below 2^31, and a constant below 2 to its size
abbrev pub IsProperKind : TokenKind → Type 0
IsProperKind (Key keyword) = Unit {0}
IsProperKind (Name bytes) = IsName bytes
IsProperKind (Number n) = n < 2147483648
IsProperKind (Const size value) = IsSize size × (value < 2 ^ size)
IsProperKind (Mark mark) = Unit {0}

-- a token that a text may have
abbrev pub IsProper : Token → Type 0
IsProper token = IsProperKind token.kind
