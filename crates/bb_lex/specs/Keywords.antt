-- The tokens that words spell.
use Rattle.std.specs.Prelude.{ℕ, List, Option, Some, None}
use Rattle.bb_base.specs.Keywords.{keyword_of}
use Rattle.bb_base.specs.declared.keyword.Keyword.{Keyword}
use Rattle.bb_base.specs.declared.token.TokenKind.{TokenKind}
use Rattle.bb_base.specs.declared.token.TokenKind.TheVariants.{Key, Name}

-- the kind of a simple name's token, by the keyword that it spells
abbrev pub kind_by : Option Keyword → List ℕ → TokenKind
kind_by (Some keyword) word = Key keyword
kind_by None word = Name word

-- the kind of the token that a simple name spells
abbrev pub word_kind : List ℕ → TokenKind
word_kind word = kind_by (keyword_of word) word
