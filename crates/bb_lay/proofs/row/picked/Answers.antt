use Rattle.std.proofs.Common.{◌+◌, ◌/◌, ◌++◌, drop, sym, ap, ◌∙◌}
use Rattle.bb_base.specs.Bits.{picked}
use Rattle.bb_ctl.proofs.RowLemmas.{more, picked_kept, picked_left}
use Rattle.bb_lay.proofs.row.picked.Goals as goal
use Rattle.bb_lay.proofs.row.picked.Goals.{then-rest-eq1+in_ok-push, else-rest-eq1}

pub wires-preserved : goal.wires-preserved
wires-preserved c =
    let xs = c.args.wires.now in
    let i = c.wires.wire-index in
    let rest = c.wires.rest in
    elim c.if-rest-eq1.branch [
      | then-rest-eq1+in_ok-push w ↦
          more c.wires.taken.items c.if-rest-eq1.taken.items _ (picked rest (drop i xs)) (picked (rest / 2) (drop (i + 1) xs)) (picked c.args.mask xs) c.wires.invariant
          (ap (λ v. v.items) w.taken-is ∙ w.in_ok-push.ensures.items) (picked_kept rest i xs _ c.wires-test.true w.if-rest-eq1.true)
      | else-rest-eq1 w ↦
          ap (λ ts. ts ++ picked (rest / 2) (drop (i + 1) xs)) (ap (λ v. v.items) w.taken-is) ∙ ap (λ ks. c.wires.taken.items ++ ks) (sym (picked_left rest i xs c.wires-test.true w.if-rest-eq1.false)) ∙ c.wires.invariant
    ]
