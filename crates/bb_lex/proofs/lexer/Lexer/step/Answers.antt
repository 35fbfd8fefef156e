use Rattle.std.proofs.Common.{sym, ◌∙◌}
use Rattle.bb_lex.specs.Machine.{seen}
use Rattle.bb_lex.proofs.Feeding.{ended_stands}
use Rattle.bb_lex.proofs.lexer.Lexer.step.Goals as goal

pub returns-in-Err-clause-stands : goal.returns-in-Err-clause-stands
returns-in-Err-clause-stands c =
    ended_stands c.in-Err.fault (seen c.args.self.now c.args.out.now.items) (seen c.end.new.self c.end.new.out.items) c.args.b (sym c.goes_on.ensures ∙ c.if-goes_on.false) c.in-Err.ensures.stands c.in-Err.ensures.told
