use Rattle.std.proofs.Common.{arith, ◌≡◌, ◌+◌, ◌-◌, cond, ◌∙◌, ap, sym}
use Rattle.bb_drive.proofs.MadeNames.{wires_next, still_same}
use Rattle.bb_drive.proofs.nets.add_wires.Goals as goal
use Rattle.bb_drive.proofs.nets.add_wires.Goals.{then-branch, else-branch}

pub loop-number-preserved : goal.loop-number-preserved
loop-number-preserved c =
    let old = c.args.vars.now.entries in
    let es = c.loop-number.vars.entries in
    let new = c.add_wire.new.vars.entries in
    let k = c.loop-number.number in
    let left = c.loop-number.left in
    let added = c.in_ok-add_wire.field-0 in
    let total = c.args.count + c.len.result in
    let rest : c.if-branch.left ≡ cond added (left - 1) left =
    elim c.if-branch.branch [ then-branch w ↦ w.left-is ∙ sym (ap (λ b. cond b (left - 1) left) w.if-branch.true) | else-branch w ↦ w.left-is ∙ sym (ap (λ b. cond b (left - 1) left) w.if-branch.false) ] in
    record {
      all = wires_next old es new total left c.if-branch.left k added c.loop-number-test.true (omega arith) c.in_ok-add_wire.ensures.added (c.loop-number.invariant.same k (omega arith) (omega arith)) c.in_ok-add_wire.ensures.entries rest ∙ c.loop-number.invariant.all;
      same = still_same old es new k added c.in_ok-add_wire.ensures.entries c.loop-number.invariant.same;
    }
