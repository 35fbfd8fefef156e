use Rattle.std.proofs.Common.{◌≡◌, ◌+◌, Some, Err, length, ap, subst, sym, ◌∙◌}
use Rattle.std.proofs.lemmas.Result.{err_from_is_err_and}
use Rattle.bb_base.specs.Building.{with_net, net_limit}
use Rattle.bb_canon.proofs.Drawing.{named_drawn, bit_drawn, clock_drawn, net_draws, net_named, net_want, option_same}
use Rattle.bb_base.proofs.BitLemmas.{same_bits}
use Rattle.bb_canon.proofs.draft.Draft.net.Goals as goal

pub returns-in_default-clause-want : goal.returns-in_default-clause-want
returns-in_default-clause-want c = λ a gates flops m h d within e.
    let found = named_drawn a c.args.self.now gates flops m c.args.text.now h d within e in
    let none = c.in_default.ensures.value in
    cc (found, none)

pub returns-then-eq-clause-want : goal.returns-then-eq-clause-want
returns-then-eq-clause-want c = λ a gates flops m h d within e.
    let bit = bit_drawn a c.args.self.now gates flops m c.args.text.now c.in-Some.bit h d within e c.in-Some.ensures.value in
    let same : c.args.self.now.clock ≡ Some c.in-Some.bit = ap (λ n. n.clock) (sym c.self.view_is) ∙ sym c.self.invariant.2 ∙ option_same _ (λ x y t. same_bits x y t) c.self.inside.clock c.in-Some.bit c.if-eq.ensures in
    clock_drawn a c.args.self.now gates flops m c.in-Some.bit h d within bit same

pub returns-in_err-net-clause-want : goal.returns-in_err-net-clause-want
returns-in_err-net-clause-want c = λ a gates flops m h d within e.
    let bit = bit_drawn a c.args.self.now gates flops m c.args.text.now c.in-Some.bit h d within e c.in-Some.ensures.value in
    let p = err_from_is_err_and c.from_residual.result c.from_residual.ensures.1 in
    rw (p.1, p.2) (net_want a c.args.self.now gates flops m c.in-Some.bit c.in_err-net.field-0.0 h d within bit c.in_err-net.ensures.only (λ count limit same. subst (λ n. length (with_net n c.in-Some.bit).names ≡ net_limit + 1) c.self.view_is ((c.in_err-net.ensures.many count limit).0 (ap Err same)).0))

pub returns-clause-drawn : goal.returns-clause-drawn
returns-clause-drawn c = λ a gates flops m h d within e.
    let bit = bit_drawn a c.args.self.now gates flops m c.args.text.now c.in-Some.bit h d within e c.in-Some.ensures.value in
    net_draws a c.args.self.now c.net.new.self gates flops m c.in-Some.bit h d within bit (c.in_ok-net.ensures.ok ∙ ap (λ n. with_net n c.in-Some.bit) c.self.view_is)

pub returns-clause-named : goal.returns-clause-named
returns-clause-named c = λ a gates flops m h d within e.
    let bit = bit_drawn a c.args.self.now gates flops m c.args.text.now c.in-Some.bit h d within e c.in-Some.ensures.value in
    net_named c.net.new.self c.in_ok-net.field-0 c.in-Some.bit _ c.in_ok-net.ensures.found bit
