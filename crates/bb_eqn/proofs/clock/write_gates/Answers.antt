use Rattle.std.proofs.Common.{arith, rules, ◌<◌, ◌≤◌, ℕ, List, Bool, ap, ◌∙◌, sym, subst, length, All}
use Rattle.std.specs.List.{AllByRecursion}
use Rattle.bb_base.specs.Net.{Gate}
use Rattle.bb_base.specs.Run.{Meets}
use Rattle.bb_eqn.specs.Values.{bits_at}
use Rattle.bb_eqn.proofs.Evaluated.{evaluated, evaluated_kept}
use Rattle.bb_eqn.proofs.Picked.{picked, picked_step, picked_end, none_still}
use Rattle.bb_eqn.proofs.Settled.{order_within, evaluated_all}
use Rattle.bb_eqn.proofs.clock.write_gates.Goals as goal

pub bounds-gates-number : goal.bounds-gates-number
bounds-gates-number c = order_within c.args.gates.now c.args.order.now c.requires.order c.loop-number.number-index 0 (omega arith)

pub write_gate-requires-clause-drives : goal.write_gate-requires-clause-drives
write_gate-requires-clause-drives c =
    let small = order_within c.args.gates.now c.args.order.now c.requires.order c.loop-number.number-index 0 (omega arith) in
    let here = subst (λ (g : Gate ℕ). g.out < length c.args.values.now) (sym c.index-gates-number.is) (c.requires.drives _ c.index-gates-number.result small) in
    omega (arith, here, c.loop-number.invariant.long)

pub write_gate-requires-clause-reads : goal.write_gate-requires-clause-reads
write_gate-requires-clause-reads c = λ k d less.
    let small = order_within c.args.gates.now c.args.order.now c.requires.order c.loop-number.number-index 0 (omega arith) in
    let here = subst (λ (g : Gate ℕ). All (λ n. n < length c.args.values.now) g.ins) (sym c.index-gates-number.is) (c.requires.reads _ c.index-gates-number.result small) in
    omega (arith, here k d less, c.loop-number.invariant.long)

pub loop-number-preserved : goal.loop-number-preserved
loop-number-preserved c =
    let less : c.loop-number.number-index < length c.args.order.now = omega arith in
    let small = order_within c.args.gates.now c.args.order.now c.requires.order c.loop-number.number-index 0 less in
    record {
      long = search rules;
      so_far = picked_step c.args.gates.now c.args.order.now c.loop-number.number-index c.index-gates-number.result c.loop-number.values c.write_gate.new.values (evaluated (picked c.args.gates.now c.args.order.now) c.args.values.now) less small
          c.index-gates-number.is c.write_gate.ensures c.loop-number.invariant.so_far;
    }

pub returns-clause-met : goal.returns-clause-met
returns-clause-met c =
    let past : length c.args.order.now ≤ c.loop-number.number-index = omega arith in
    let end = picked_end c.args.gates.now c.args.order.now c.loop-number.number-index c.loop-number.values (evaluated (picked c.args.gates.now c.args.order.now) c.args.values.now) past c.loop-number.invariant.so_far in
    subst (λ (v : List Bool). AllByRecursion (Meets (bits_at v)) c.args.gates.now) (sym end) (evaluated_all c.args.gates.now c.args.order.now c.args.values.now c.requires.order c.requires.once c.requires.drives)

pub returns-clause-kept : goal.returns-clause-kept
returns-clause-kept c = λ net none.
    let past : length c.args.order.now ≤ c.loop-number.number-index = omega arith in
    let end = picked_end c.args.gates.now c.args.order.now c.loop-number.number-index c.loop-number.values (evaluated (picked c.args.gates.now c.args.order.now) c.args.values.now) past c.loop-number.invariant.so_far in
    ap (λ (v : List Bool). bits_at v net) end ∙ evaluated_kept (picked c.args.gates.now c.args.order.now) c.args.values.now net (none_still c.args.gates.now net c.args.order.now none)
