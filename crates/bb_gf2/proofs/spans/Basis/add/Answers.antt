use Rattle.std.proofs.Common.{◌↔◌, ◌++◌, ◌∷◌, [], sym, ap, subst, ◌∙◌, arith}
use Rattle.bb_base.specs.Span.{IsInSpan, IsInCoset}
use Rattle.bb_base.specs.Firsts.{IsLeast}
use Rattle.bb_gf2.specs.Reduced.{IsReduced}
use Rattle.bb_gf2.proofs.Cosets.{in_span_from_zero, zero_from_in_span, span_more, reduced_more, room_left}
use Rattle.bb_gf2.proofs.spans.Basis.add.Goals as goal

pub returns-then-row-eq0-clause-inside : goal.returns-then-row-eq0-clause-inside
returns-then-row-eq0-clause-inside c = in_span_from_zero c.args.self.now c.args.v c.reduce-row.result c.reduce-row.ensures.least c.if-row-eq0.true

pub push-requires : goal.push-requires
push-requires c =
    let row = c.reduce-row.result in
    let least = subst (λ xs. IsLeast (IsInCoset xs c.args.v) row) (sym c.self.view_is) c.reduce-row.ensures.least in
    (omega arith, room_left c.self.inside.rows.items c.args.v row c.self.invariant least c.if-row-eq0.false (omega arith))

pub invariant_of-self : goal.invariant_of-self
invariant_of-self c =
    let items = c.self.inside.rows.items in
    let row = c.reduce-row.result in
    let least = subst (λ xs. IsLeast (IsInCoset xs c.args.v) row) (sym c.self.view_is) c.reduce-row.ensures.least in
    subst IsReduced (sym c.push.ensures.items) (reduced_more items c.args.v row c.self.invariant least c.if-row-eq0.false (omega arith))

pub returns-clause-outside : goal.returns-clause-outside
returns-clause-outside c = λ inside. c.if-row-eq0.false (zero_from_in_span c.args.self.now c.args.v c.reduce-row.result c.reduce-row.ensures.least inside)

pub returns-clause-span : goal.returns-clause-span
returns-clause-span c = λ w.
    let row = c.reduce-row.result in
    let items = c.push.ensures.items ∙ ap (λ xs. xs ++ row ∷ []) c.self.view_is in
    subst (λ ys. IsInSpan ys w ↔ IsInSpan (c.args.v ∷ c.args.self.now) w) (sym items) (span_more c.args.self.now c.args.v row c.reduce-row.ensures.least w)
