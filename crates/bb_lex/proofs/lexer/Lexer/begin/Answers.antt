use Rattle.std.proofs.Common.{◌≡◌}
use Rattle.bb_lex.specs.declared.bytes.Class.TheVariants as class
use Rattle.bb_lex.specs.Bytes.{class_of}
use Rattle.bb_lex.proofs.ByteLemmas.{letter_plain}
use Rattle.bb_lex.proofs.lexer.Lexer.begin.Goals as goal

pub start-requires : goal.start-requires
start-requires c = let letter : class_of c.args.b ≡ class.Letter = cc in letter_plain c.args.b letter
