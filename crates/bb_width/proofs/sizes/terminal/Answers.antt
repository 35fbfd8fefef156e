use Rattle.std.proofs.Common.{sym, subst}
use Rattle.bb_fault.specs.Limits.{told_count}
use Rattle.bb_scope.specs.Answers.{IsAnswerWith}
use Rattle.bb_scope.specs.Sizes.{expr_fault, terminal_nets}
use Rattle.bb_width.proofs.sizes.terminal.Goals as goal

pub returns-in-Some : goal.returns-in-Some
returns-in-Some c =
    let vars = c.args.scope.now in
    subst (λ steps. IsAnswerWith (expr_fault vars c.args.line 1 steps) (told_count (terminal_nets vars steps)) c.plain_terminal.result) (sym c.in-Some.ensures.some) c.plain_terminal.ensures
