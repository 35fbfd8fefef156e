-- Reading a text in pieces: where its lexer and its parser stand.
use Rattle.std.specs.Prelude.{◌≡◌, ℕ, List, [], Ok}
use Rattle.std.specs.List.{AllByRecursion}
use Rattle.bb_base.specs.declared.token.Token.{Token}
use Rattle.bb_lex.specs.Machine as lexing
use Rattle.bb_base.specs.Tokens.{IsProper}
use Rattle.bb_parse.specs.Machine as parsing
use Rattle.bb_parse.specs.Standing as standing

-- what has begun of a token, and what must follow of the module
pub record PartRead : Type 0 where
  pub lexer : lexing.Lexing
  pub parser : parsing.Parsing

abbrev pub reading : lexing.Lexing → parsing.Parsing → PartRead
reading lexer parser = record { lexer = lexer; parser = parser }

-- the bytes so far have given these tokens, each one that a text may have, which the parser has taken, and neither has found a
-- fault
pub record HasRead (text : List ℕ) (r : PartRead) : Type 0 where
  pub tokens : List Token
  pub lexed : lexing.run lexing.start text ≡ lexing.after_tokens tokens (lexing.seen r.lexer [])
  pub proper : AllByRecursion IsProper tokens
  pub parsed : r.parser ≡ parsing.run parsing.start tokens
  pub no_lexical : lexing.told r.lexer.mode ≡ Ok tt
  pub no_grammatical : standing.answer_of r.parser ≡ Ok tt
