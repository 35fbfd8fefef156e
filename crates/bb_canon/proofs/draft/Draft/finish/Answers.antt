use Rattle.std.proofs.Common.{◌<◌, ◌↔◌, IsSome, Err, length, ap, subst, sym, ◌∙◌}
use Rattle.std.proofs.lemmas.Result.{err_from_is_err_and}
use Rattle.bb_canon.specs.Toward.{IsDrawn}
use Rattle.bb_canon.proofs.Draws.{drawn_clocked}
use Rattle.bb_canon.proofs.Drawing.{finish_want, clock_stops}
use Rattle.bb_canon.proofs.draft.Draft.finish.Goals as goal

pub returns-then-is_some-self-clause-want : goal.returns-then-is_some-self-clause-want
returns-then-is_some-self-clause-want c = λ a h d.
    let clocked = drawn_clocked a c.args.self h.named d in
    let of : IsSome c.self.inside.clock ↔ (0 < c.self.inside.flops) =
    subst (λ o. IsSome o ↔ (0 < c.self.inside.flops)) (sym (c.self.invariant.2 ∙ ap (λ n. n.clock) c.self.view_is)) (subst (λ k. IsSome c.args.self.clock ↔ (0 < k)) (sym (c.self.invariant.4 ∙ ap (λ n. length n.netlist.flops) c.self.view_is)) clocked) in
    clock_stops c.self.inside.clock c.self.inside.flops c.is_some.result c.is_some.ensures of c.if-is_some-self.true

pub returns-in_err-finish-clause-want : goal.returns-in_err-finish-clause-want
returns-in_err-finish-clause-want c = λ a h d.
    let drawn = subst (λ n. IsDrawn a n a.netlist.gates a.netlist.flops) (sym c.self.view_is) d in
    let p = err_from_is_err_and c.from_residual.result c.from_residual.ensures.1 in
    rw (p.1, p.2) (finish_want a c.self.inside.builder c.in_err-finish.field-0.0 h drawn c.in_err-finish.ensures.only (λ net e. c.in_err-finish.ensures.two net (ap Err e)) (λ net e. c.in_err-finish.ensures.none net (ap Err e)))
