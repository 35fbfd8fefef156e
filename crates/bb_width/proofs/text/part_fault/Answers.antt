use Rattle.std.proofs.lemmas.Result.{err_from_is_err_and}
use Rattle.bb_width.proofs.TextLaws.{item_is_first}
use Rattle.bb_width.proofs.text.part_fault.Goals as goal

pub returns-in_err-nets : goal.returns-in_err-nets
returns-in_err-nets c =
    let p = err_from_is_err_and c.from_residual-in_err-nets.result c.from_residual-in_err-nets.ensures.1 in
    rw (p.1, p.2)
    (λ h. item_is_first c.args.own c.args.module.now c.args.scope.now c.as_slice-list.result.now c.in_err-nets.field-0.0 c.requires.scope c.as_slice-list.ensures c.in_ok-unknown_cell.ensures
    (c.in_err-nets.ensures h))
