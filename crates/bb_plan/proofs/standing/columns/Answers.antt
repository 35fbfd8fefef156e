use Rattle.std.proofs.Common.{List, subst, arith}
use Rattle.bb_base.specs.Places.{EachAt}
use Rattle.bb_terms.specs.declared.plan.Cell.{Cell}
use Rattle.bb_terms.specs.Rules.{IsColumn}
use Rattle.bb_plan.proofs.FirstWrong.{none_wrong}
use Rattle.bb_plan.proofs.standing.columns.Goals as goal

pub returns : goal.returns
returns c = λ a.
    subst (λ (cells : List Cell). EachAt cells (λ i c'. IsColumn c.args.plan.now c')) c.requires.chain
    (none_wrong c.args.cells.now (λ i c'. IsColumn c.args.plan.now c') c.cells.place c.cells.invariant (omega arith))
