use Rattle.std.proofs.Common.{◌≡◌, drop, Ok}
use Rattle.bb_lex.specs.Machine.{run, seen, told, IsKept}
use Rattle.bb_lex.proofs.lexer.Lexer.feed.Given as goal

-- what is left leads on to where all leads
abbrev pub invariant-bytes : goal.invariant-bytes
invariant-bytes l = record {
  going : told l.self.mode ≡ Ok tt;
  kept : IsKept l.fn.out.items l.out.items;
  rest : run (seen l.self l.out.items) (drop l.b-index l.piece) ≡ run (seen l.fn.self l.fn.out.items) l.piece;
}
