use Rattle.std.proofs.Common.{rules, ℕ, ◌+◌, drop, get_or, Err, sym, subst, ◌∙◌}
use Rattle.bb_lex.specs.Machine.{Machine, step, seen, Stands}
use Rattle.bb_lex.proofs.Feeding.{stands_on, stands_at_once, run_at}
use Rattle.bb_lex.proofs.lexer.Lexer.feed.Goals as goal

pub returns-in-Failed-clause-stands : goal.returns-in-Failed-clause-stands
returns-in-Failed-clause-stands c = stands_at_once c.in-Failed.fault (seen c.args.self.now c.args.out.now.items) c.args.piece.now (search rules)

pub returns-in-Err-clause-stands : goal.returns-in-Err-clause-stands
returns-in-Err-clause-stands c =
    let m : Machine = seen c.bytes.self c.bytes.out.items in
    let i : ℕ = c.bytes.b-index in
    subst (λ (x : Machine). Stands {A = Unit {0}} (Err c.in-Err.fault) x (seen c.step.new.self c.step.new.out.items))
    (sym (run_at m c.args.piece.now i c.bytes-test.true) ∙ c.bytes.invariant.rest)
    (stands_on c.in-Err.fault (step m (get_or c.args.piece.now i 0)) (seen c.step.new.self c.step.new.out.items) (drop (i + 1) c.args.piece.now) c.in-Err.ensures.stands c.in-Err.ensures.told)
