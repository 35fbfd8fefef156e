use Rattle.std.proofs.Common.{inl, ◌≢◌, Err, None, Some}
use Rattle.bb_fault.specs.declared.fault.ElabFault.TheVariants.{NoMemory}
use Rattle.bb_meaning.specs.Outcome.{IsOutcome}
use Rattle.bb_drive.proofs.Passed.{passed}
use Rattle.bb_meaning.proofs.CountedFault.{text_first, nets_first}
use Rattle.bb_elab.proofs.LoopLaws.{refused}
use Rattle.bb_elab.proofs.outcome.elaborate.Goals as goal

pub returns-in_err-bound-clause-fault : goal.returns-in_err-bound-clause-fault
returns-in_err-bound-clause-fault c =
    let m = c.args.module.now in
    passed c.from_residual.result c.in_err-bound.field-0.0 (λ f. f ≢ NoMemory → IsOutcome c.args.own m (Err f)) c.from_residual.ensures.1
    (λ some. inl (text_first c.args.own m c.in_err-bound.field-0.0 (c.in_err-bound.ensures.fault some)))

pub returns-in_err-named-clause-fault : goal.returns-in_err-named-clause-fault
returns-in_err-named-clause-fault c =
    let m = c.args.module.now in
    passed c.from_residual-in_err-named.result c.in_err-named.field-0.0 (λ f. f ≢ NoMemory → IsOutcome c.args.own m (Err f)) c.from_residual-in_err-named.ensures.1
    (λ some. inl (nets_first c.args.own m (Some c.in_err-named.field-0.0) c.in_ok-bound.ensures.fault (c.in_err-named.ensures.fault some)))

pub returns-in_err-order-clause-fault : goal.returns-in_err-order-clause-fault
returns-in_err-order-clause-fault c =
    let m = c.args.module.now in
    passed c.from_residual-in_err-order.result c.in_err-order.field-0.0 (λ f. f ≢ NoMemory → IsOutcome c.args.own m (Err f)) c.from_residual-in_err-order.ensures.1
    (λ some. refused c.args.own m c.in_ok-named.named c.in_err-order.field-0.0 c.in_ok-bound.ensures.fault c.in_ok-named.ensures.fine c.in_ok-named.ensures.named (c.in_err-order.ensures.fault some))

pub returns-clause-named : goal.returns-clause-named
returns-clause-named c =
    let m = c.args.module.now in
    (nets_first c.args.own m None c.in_ok-bound.ensures.fault c.in_ok-named.ensures.fine, c.in_ok-named.ensures.named, (c.in_ok-order.order, c.in_ok-order.ensures.order))
