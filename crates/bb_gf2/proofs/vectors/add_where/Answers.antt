use Rattle.std.proofs.Common.{◌/◌, ◌+◌, sym, subst, arith}
use Rattle.bb_gf2.proofs.Steps.{Added, added_with, added_same}
use Rattle.bb_gf2.proofs.vectors.add_where.Goals as goal
use Rattle.bb_gf2.proofs.vectors.add_where.Goals.{then-left-eq1, else-left-eq1}

pub loop-each-preserved : goal.loop-each-preserved
loop-each-preserved c =
    let old = c.args.vectors.now in
    let i = c.loop-each.each-index in
    let left = c.loop-each.left in
    elim c.if-left-eq1.branch [
      | then-left-eq1 w ↦ subst (Added (left / 2) c.args.mask c.args.vector (i + 1) old) (sym w.vectors-is) (added_with left c.args.mask c.args.vector i old c.loop-each.vectors (omega arith) c.loop-each.invariant w.if-left-eq1.true)
      | else-left-eq1 w ↦ subst (Added (left / 2) c.args.mask c.args.vector (i + 1) old) (sym w.vectors-is) (added_same left c.args.mask c.args.vector i old c.loop-each.vectors c.loop-each.invariant w.if-left-eq1.false)
    ]
