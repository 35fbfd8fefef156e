-- What a text denotes: a module, or its first flaw.
-- Of flaws a token at which no module goes on comes first, then a lexical fault, and then the end of a text whose module goes on.
use Rattle.std.specs.Prelude.{◌≡◌, ◌⊎◌, ℕ, List, ◌∷◌, ◌++◌, Result, Ok, Err}
use Rattle.bb_base.specs.declared.token.Token.{Token}
use Rattle.bb_base.specs.declared.lex_fault.LexFault.{LexFault}
use Rattle.bb_lex.specs.Text as lexical
use Rattle.bb_parse.specs.declared.fault.ParseFault.{ParseFault}
use Rattle.bb_parse.specs.declared.fault.ParseFault.TheVariants.{Unreadable, NoMemory}
use Rattle.bb_parse.specs.declared.syntax.Module.{Module}
use Rattle.bb_parse.specs.Meaning as meaning

-- the text's tokens end in a line, without a fault, and are this module
pub record IsModuleOf (m : Module) (text : List ℕ) : Type 0 where
  pub tokens : List Token
  pub line : ℕ
  pub reads : lexical.Denotes text tokens (Ok line)
  pub derives : meaning.Denotes tokens m

-- tokens after which no module goes on, the first time at one in this line
pub record HasBadToken (tokens : List Token) (line : ℕ) : Type 0 where
  pub front : List Token
  pub bad : Token
  pub rest : List Token
  pub tokens_are : tokens ≡ front ++ bad ∷ rest
  pub first : meaning.IsFirstBad front bad
  pub line_is : line ≡ bad.line

-- tokens that end in this line where their module goes on
pub record IsCutShort (tokens : List Token) (end : Result ℕ LexFault) (line : ℕ) : Type 0 where
  pub goes_on : meaning.IsFront tokens
  pub ends : end ≡ Ok line
  pub unfinished : (value : Module) → meaning.Denotes tokens value → ⊥

-- the text's first flaw is this lexical fault: some module begins with the tokens before it
pub record HasLexFault (text : List ℕ) (fault : LexFault) : Type 0 where
  pub tokens : List Token
  pub reads : lexical.Denotes text tokens (Err fault)
  pub goes_on : meaning.IsFront tokens

-- the text's first flaw stands in this line, and is a token at which no module goes on, or the end
pub record IsUnreadable (text : List ℕ) (line : ℕ) : Type 0 where
  pub tokens : List Token
  pub end : Result ℕ LexFault
  pub reads : lexical.Denotes text tokens end
  pub breaks : HasBadToken tokens line ⊎ IsCutShort tokens end line

-- the text's first flaw is this fault of the grammar
abbrev pub HasParseFault : List ℕ → ParseFault → Type 0
HasParseFault text (Unreadable line) = IsUnreadable text line
HasParseFault text NoMemory = ⊥
