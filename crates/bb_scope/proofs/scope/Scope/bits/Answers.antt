use Rattle.std.proofs.Common.{arith, ◌≡◌, sym, ap, ◌∙◌, ◌+◌, ◌-◌, [], Some, None}
use Rattle.std.specs.List.{range_with_len}
use Rattle.bb_scope.specs.References.{selected, ref_span, first_number, span_bits}
use Rattle.bb_scope.proofs.ScopeLaws.{next_place, next_within, selected-within, range_done}
use Rattle.bb_scope.proofs.scope.Scope.bits.Goals as goal

pub place-place-requires : goal.place-place-requires
place-place-requires c = next_within c.args.self.now c.args.reference.now.name [] c.args.uses.now 0 c.requires

pub overflow_cast-result : goal.overflow_cast-result
overflow_cast-result c =
    let within = selected-within c.place-place.result.range c.args.reference.now.select c.in-Some.span (sym c.in-Some.ensures) in
    omega (arith, within, c.place-place.ensures.few)

pub overflow_add-result-in-Some-2 : goal.overflow_add-result-in-Some-2
overflow_add-result-in-Some-2 c =
    let within = selected-within c.place-place.result.range c.args.reference.now.select c.in-Some.span (sym c.in-Some.ensures) in
    omega (arith, within, c.place-place.ensures.few)

pub returns-in-None : goal.returns-in-None
returns-in-None c =
    let vars = c.args.self.now in
    let ref = c.args.reference.now in
    let place = next_place vars ref.name [] c.args.uses.now 0 c.place-place.result c.requires c.place-place.ensures.place in
    let none : ref_span vars ref ≡ None = ap (λ p. selected p.range ref.select) (sym place) ∙ sym c.in-None.ensures in
    record {
      order = omega arith;
      bits = range_done c.place-place.result.first c.place-place.result.first (omega arith) ∙ sym (ap (span_bits (first_number vars ref.name)) none);
    }

pub returns-in-Some-clause-bits : goal.returns-in-Some-clause-bits
returns-in-Some-clause-bits c =
    let vars = c.args.self.now in
    let ref = c.args.reference.now in
    let place = next_place vars ref.name [] c.args.uses.now 0 c.place-place.result c.requires c.place-place.ensures.place in
    let some : ref_span vars ref ≡ Some c.in-Some.span = ap (λ p. selected p.range ref.select) (sym place) ∙ sym c.in-Some.ensures in
    let first : c.place-place.result.first ≡ first_number vars ref.name = ap (λ p. p.first) place in
    let width : c.place-place.result.first + c.in-Some.span.first + c.in-Some.span.width - (c.place-place.result.first + c.in-Some.span.first) ≡ c.in-Some.span.width = omega arith in
    (λ i. range_with_len (first i + c.in-Some.span.first) (width i)) ∙ sym (ap (span_bits (first_number vars ref.name)) some)
