use Rattle.std.proofs.Common.{◌<◌, ◌^◌, sym, subst}
use Rattle.bb_gf2.proofs.Injective.{next_below}
use Rattle.bb_gf2.proofs.WalkSteps.{next_by_masks}
use Rattle.bb_gf2.proofs.states.next.Goals as goal

pub returns-clause-state : goal.returns-clause-state
returns-clause-state c =
    let degree = c.requires.degree in
    next_by_masks c.args.degree c.args.mask c.args.x c.from.result c.code_bit.result degree.least degree.most c.code_bit.ensures c.from.ensures

pub returns-clause-below : goal.returns-clause-below
returns-clause-below c =
    let degree = c.requires.degree in
    let step = next_by_masks c.args.degree c.args.mask c.args.x c.from.result c.code_bit.result degree.least degree.most c.code_bit.ensures c.from.ensures in
    subst (λ n. n < 2 ^ c.args.degree) (sym step) (next_below c.args.degree c.args.mask c.args.x)
