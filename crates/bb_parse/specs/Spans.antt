-- Spans of tokens: a relation of the tokens from one place on to those from a later place on (after Pereira and Warren, 1980).
use Rattle.std.specs.Prelude.{◌≡◌, ℕ, List, [], ◌∷◌}
use Rattle.bb_base.specs.declared.keyword.Keyword.{Keyword}
use Rattle.bb_base.specs.declared.token.Mark.{Mark}
use Rattle.bb_base.specs.declared.token.Token.{Token}
use Rattle.bb_base.specs.declared.token.TokenKind.{TokenKind}
use Rattle.bb_base.specs.declared.token.TokenKind.TheVariants as kinds

infixr 40 ◌⨾◌
-- from the tokens at one place to the tokens at a later place
abbrev pub Span : Type 1
Span = List Token → List Token → Type 0

-- one span, and right behind it the other
abbrev pub ◌⨾◌ : Span → Span → Span
◌⨾◌ first second from to = (between : List Token) × first from between × second between to

-- no token
abbrev pub nothing : Span
nothing from to = from ≡ to

-- a span, where a fact holds
abbrev pub such : Type 0 → Span → Span
such fact span from to = fact × span from to

-- one token of this kind in this line
abbrev pub word_at : ℕ → TokenKind → Span
word_at line kind from to = from ≡ record { kind = kind; line = line } ∷ to

-- one token of this kind
abbrev pub word : TokenKind → Span
word kind from to = (line : ℕ) × word_at line kind from to

-- one of each kind of token
abbrev pub key : Keyword → Span
key k = word (kinds.Key k)

abbrev pub mark : Mark → Span
mark m = word (kinds.Mark m)

abbrev pub name : List ℕ → Span
name x = word (kinds.Name x)

abbrev pub number : ℕ → Span
number n = word (kinds.Number n)

-- the spans of these, one behind the other
abbrev pub many : {A : Type 0} → (A → Span) → List A → Span
many span [] = nothing
many span (x ∷ xs) = span x ⨾ many span xs
