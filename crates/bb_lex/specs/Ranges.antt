-- What a lexer keeps to: its tokens are proper, and so is what has begun.
use Rattle.std.specs.Prelude.{ℕ}
use Rattle.std.specs.List.{AllByRecursion}
use Rattle.bb_base.specs.Name.{IsNameByte}
use Rattle.bb_base.specs.Tokens.{IsSize, IsProper}
use Rattle.bb_lex.specs.Machine.{Mode, InName, AtQuote, AtBase, InConstant, InEscaped, Machine}

-- what has begun keeps to this: a name has bytes of names, and the size of a constant is in its range
abbrev pub IsSoundMode : Mode → Type 0
IsSoundMode (InName bytes) = AllByRecursion IsNameByte bytes
IsSoundMode (AtQuote signed size) = IsSize size
IsSoundMode (AtBase size base) = IsSize size
IsSoundMode (InConstant size base value) = IsSize size
IsSoundMode (InEscaped bytes) = AllByRecursion IsNameByte bytes
IsSoundMode mode = Unit {0}

-- all tokens are proper, and what has begun keeps to the same
pub record IsSound (m : Machine) : Type 0 where
  pub tokens : AllByRecursion IsProper m.tokens
  pub mode : IsSoundMode m.now.mode
