-- What is dropped between two marks: block comments and attributes, which have strings.
use Rattle.std.specs.Prelude.{ℕ, Bool, false, ◌&&◌, ◌||◌, ◌==◌, if◌then◌else◌, List, [], ◌∷◌}
use Rattle.bb_lex.specs.declared.lexer.Fence.{Fence}
use Rattle.bb_lex.specs.declared.lexer.Fence.TheVariants.{Comment, Attribute}
use Rattle.bb_lex.specs.declared.lexer.Place.{Place}
use Rattle.bb_lex.specs.declared.lexer.Place.TheVariants.{Outside, InString, Slashed}
use Rattle.bb_lex.specs.Bytes.{begins}

-- the byte before the star of the opening mark
abbrev pub opener : Fence → ℕ
opener Comment = 47
opener Attribute = 40

-- the byte after the star of the closing mark
abbrev pub closer : Fence → ℕ
closer Comment = 47
closer Attribute = 41

-- where the byte after this one stands: an attribute has strings, and in them a backslash takes the next byte along
abbrev pub place_after : Fence → Place → ℕ → Place
place_after Comment place b = Outside
place_after Attribute Outside b = if b == 34 then InString else Outside
place_after Attribute InString b = if b == 34 then Outside else if b == 92 then Slashed else InString
place_after Attribute Slashed b = InString

-- a byte outside strings, and 0 for one inside
abbrev pub shown : Place → ℕ → ℕ
shown Outside b = b
shown InString b = 0
shown Slashed b = 0

-- the bytes with those of strings blotted out
abbrev pub outside : Fence → Place → List ℕ → List ℕ
outside fence place [] = []
outside fence place (b ∷ bytes) = shown place b ∷ outside fence (place_after fence place b) bytes

-- a star and right after it the byte stand somewhere
abbrev pub has_close : ℕ → List ℕ → Bool
has_close last [] = false
has_close last (b ∷ bytes) = (b == 42 && begins (λ c. c == last) bytes) || has_close last bytes

-- between the marks of such a text the closing mark stands somewhere outside strings
abbrev pub is_closed : Fence → List ℕ → Bool
is_closed fence body = has_close (closer fence) (outside fence Outside body)
