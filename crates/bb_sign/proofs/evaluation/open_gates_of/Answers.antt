use Rattle.std.proofs.Common.{arith, ◌≡◌, ◌+◌, ◌<◌, ◌∷◌, [], ◌++◌, ℕ, length, drop, ap, sym, subst, ◌∙◌}
use Rattle.bb_base.specs.Net.{Gate}
use Rattle.bb_eqn.proofs.Settled.{order_within}
use Rattle.bb_sign.specs.Evaluation.{AreOpenGates}
use Rattle.bb_sign.proofs.GateLemmas.{walked, walked_with, walked_without, walked_end, open_gates}
use Rattle.bb_sign.proofs.evaluation.open_gates_of.Goals as goal
use Rattle.bb_sign.proofs.evaluation.open_gates_of.Goals.{then-is_open+in_ok-copied+in_ok-push, else-is_open}

pub bounds-gates-number : goal.bounds-gates-number
bounds-gates-number c = order_within c.args.gates.now c.args.order.now c.requires.order c.numbers.number-index 0 (omega (arith, c.numbers-test.true))

pub is_open-requires : goal.is_open-requires
is_open-requires c =
    let small = order_within c.args.gates.now c.args.order.now c.requires.order c.numbers.number-index 0 (omega (arith, c.numbers-test.true)) in
    subst (λ (g : Gate ℕ). g.out < length c.args.table.now) (sym c.index-gates-number.is) (c.requires.drives _ c.index-gates-number.result small)

pub numbers-preserved : goal.numbers-preserved
numbers-preserved c =
    let gates = c.args.gates.now in
    let table = c.args.table.now in
    let order = c.args.order.now in
    let place = c.numbers.number-index in
    let g = c.index-gates-number.result in
    let small = order_within gates order c.requires.order place 0 (omega (arith, c.numbers-test.true)) in
    elim c.if-is_open.branch [
      | then-is_open+in_ok-copied+in_ok-push w ↦
          let items = ap (λ v. v.items) w.open_gates-is ∙ (w.in_ok-push.ensures.items ∙ ap (λ (x : Gate ℕ). c.numbers.open_gates.items ++ x ∷ []) w.in_ok-copied.ensures) in
          subst (λ gs. gs ++ walked gates table (drop (place + 1) order) ≡ walked gates table order) (sym items)
          (walked_with gates table order place g c.numbers.open_gates.items (walked gates table order) c.numbers-test.true small c.index-gates-number.is (c.is_open.ensures.without w.if-is_open.true) c.numbers.invariant)
      | else-is_open w ↦
          subst (λ gs. gs ++ walked gates table (drop (place + 1) order) ≡ walked gates table order) (sym (ap (λ v. v.items) w.open_gates-is))
          (walked_without gates table order place g c.numbers.open_gates.items (walked gates table order) c.numbers-test.true small c.index-gates-number.is (c.is_open.ensures.with_one w.if-is_open.false) c.numbers.invariant)
    ]

pub returns : goal.returns
returns c =
    let end = walked_end c.args.gates.now c.args.table.now c.args.order.now c.numbers.number-index c.numbers.open_gates.items (walked c.args.gates.now c.args.table.now c.args.order.now) (omega (arith, c.numbers-test.false)) c.numbers.invariant in
    subst (AreOpenGates c.args.gates.now c.args.table.now) (sym end) (open_gates c.args.gates.now c.args.table.now c.args.order.now c.requires.order c.requires.once)
