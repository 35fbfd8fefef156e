use Rattle.std.proofs.Common.{rules, ◌≡◌, false}
use Rattle.bb_lex.specs.Bytes.{is_odd}
use Rattle.bb_lex.proofs.ByteLemmas.{name_goes, escaped_begins, escaped_goes}
use Rattle.bb_lex.proofs.lexer.Lexer.more.Goals as goal

pub push-requires : goal.push-requires
push-requires c = name_goes c.args.self.now.mode c.self.inside.name c.args.b (search rules) c.requires

pub start-requires : goal.start-requires
start-requires c = escaped_begins c.args.self.now.mode c.args.b (search rules) c.requires

pub push-requires-in-Escaped-2 : goal.push-requires-in-Escaped-2
push-requires-in-Escaped-2 c = let odd : is_odd c.args.b ≡ false = cc in escaped_goes c.args.self.now.mode c.self.inside.name c.args.b (search rules) c.requires odd
