use Rattle.std.proofs.Common.{◌≡◌, length, map, Err, ap, ◌∙◌}
use Rattle.std.proofs.lemmas.Result.{err_from_is_err_and}
use Rattle.bb_base.specs.Net.{Gate}
use Rattle.bb_base.specs.Variables.{Bit}
use Rattle.bb_base.specs.Named.{name_of_net, net_text}
use Rattle.bb_base.specs.Building.{with_gate}
use Rattle.bb_canon.proofs.Drawing.{gate_want, gate_draws, below_more}
use Rattle.bb_canon.proofs.draft.Draft.state.Goals as goal

pub returns-in_err-gate-clause-want : goal.returns-in_err-gate-clause-want
returns-in_err-gate-clause-want c = λ a gates flops g h d is few e.
    let op : c.statement.inside.op ≡ g.op = ap (λ (x : Gate Bit). x.op) (c.statement.view_is ∙ e) in
    let out : c.statement.inside.out ≡ net_text a g.out = ap (λ (x : Gate Bit). x.out) (c.statement.view_is ∙ e) in
    let ins : c.statement.inside.ins.items ≡ map (net_text a) g.ins = ap (λ (x : Gate Bit). x.ins) (c.statement.view_is ∙ e) in
    let one = c.in_ok-out.ensures.drawn a gates flops g.out h d is.out out in
    let named = c.in_ok-ins.ensures.named a gates flops g.ins h one is.ins (c.deref.ensures.value ∙ ins) in
    let same : map (name_of_net c.nets.new.self) c.deref-2.result.now ≡ map (name_of_net a) g.ins = ap (map (name_of_net c.nets.new.self)) c.deref-2.ensures.value ∙ named in
    let p = err_from_is_err_and c.from_residual-in_err-gate.result c.from_residual-in_err-gate.ensures.1 in
    rw (p.1, p.2) (gate_want a c.nets.new.self g c.statement.inside.op c.deref-2.result.now c.in_err-gate.field-0.0 is op same c.in_err-gate.ensures.only (λ gate k. ((c.in_err-gate.ensures.arity gate).0 (ap Err k)).1))

pub returns-clause-drawn : goal.returns-clause-drawn
returns-clause-drawn c = λ a gates flops g h d is few e.
    let op : c.statement.inside.op ≡ g.op = ap (λ (x : Gate Bit). x.op) (c.statement.view_is ∙ e) in
    let out : c.statement.inside.out ≡ net_text a g.out = ap (λ (x : Gate Bit). x.out) (c.statement.view_is ∙ e) in
    let ins : c.statement.inside.ins.items ≡ map (net_text a) g.ins = ap (λ (x : Gate Bit). x.ins) (c.statement.view_is ∙ e) in
    let one = c.in_ok-out.ensures.drawn a gates flops g.out h d is.out out in
    let first = c.in_ok-out.ensures.named a gates flops g.out h d is.out out in
    let two = c.in_ok-ins.ensures.drawn a gates flops g.ins h one is.ins (c.deref.ensures.value ∙ ins) in
    let named = c.in_ok-ins.ensures.named a gates flops g.ins h one is.ins (c.deref.ensures.value ∙ ins) in
    let kept = c.in_ok-ins.ensures.kept c.in_ok-out.out c.in_ok-out.ensures.within in
    let made : c.gate.new.self ≡ with_gate c.nets.new.self c.statement.inside.op c.in_ok-out.out c.in_ok-ins.ins.items =
    c.in_ok-gate.ensures.ok ∙ ap (λ n. with_gate n c.statement.inside.op c.in_ok-out.out c.deref-2.result.now) c.self.view_is ∙ ap (with_gate c.nets.new.self c.statement.inside.op c.in_ok-out.out) c.deref-2.ensures.value in
    gate_draws a c.nets.new.self c.gate.new.self gates flops g c.statement.inside.op c.in_ok-out.out c.in_ok-ins.ins.items two is op (below_more c.in_ok-out.out (length c.net.new.self.names) (length c.nets.new.self.names) c.in_ok-out.ensures.within c.in_ok-ins.ensures.grows) c.in_ok-ins.ensures.within (kept ∙ first) named made
