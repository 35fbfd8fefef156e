use Rattle.std.proofs.Common.{subst}
use Rattle.std.proofs.lemmas.List.{take_all}
use Rattle.bb_base.specs.Dual.{AreLeastDuals}
use Rattle.bb_gf2.proofs.Pairing.{duals_from_least}
use Rattle.bb_gf2.proofs.Existence.{independent}
use Rattle.std.proofs.lemmas.Result.{err_from_is_err_and}
use Rattle.bb_gf2.proofs.Rows.{least_by_place}
use Rattle.bb_gf2.proofs.vectors.duals.Goals as goal

pub returns-in_err-add_row-clause-dependent : goal.returns-in_err-add_row-clause-dependent
returns-in_err-add_row-clause-dependent c =
    let p = err_from_is_err_and c.from_residual.result c.from_residual.ensures.1 in rw (p.1, p.2) (least_by_place c.args.rows.now c.loop-place.place _ c.loop-place-test.true c.in_err-add_row.ensures.err)

pub returns-clause-independent : goal.returns-clause-independent
returns-clause-independent c =
    let rows = c.args.rows.now in
    let ds = c.loop-place.duals.items in
    let least = subst (λ xs. AreLeastDuals xs ds) (take_all c.loop-place.place rows c.loop-place-test.false) c.loop-place.invariant in
    independent rows ds (duals_from_least rows ds least)
