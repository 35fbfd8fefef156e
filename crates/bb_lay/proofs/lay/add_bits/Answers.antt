use Rattle.std.proofs.Common.{arith, ap, rules, IsSome, ◌≡◌, ◌∙◌, length, length-append, true, false, Contains}
use Rattle.std.specs.List.{list_any}
use Rattle.bb_base.specs.Variables.{bit_at, bit_eq}
use Rattle.bb_base.specs.Named.{Named}
use Rattle.bb_lay.specs.Laying.{net_bits}
use Rattle.bb_lay.proofs.Bits.{net_bits_few, place_added, place_passed, found_any, missed_any}
use Rattle.bb_lay.proofs.lay.add_bits.Goals as goal
use Rattle.bb_lay.proofs.lay.add_bits.Goals.{then-is_some+in_ok-add_bit, else-is_some}

pub add_bit-requires-clause-room : goal.add_bit-requires-clause-room
add_bit-requires-clause-room c =
    let names = c.args.named.now.names in
    let bits = net_bits names c.args.of c.args.number c.places.place in
    omega (arith, ap (λ (k : Named). length k.names) c.places.invariant.builder, length-append c.args.builder.now.names bits, net_bits_few names c.args.of c.args.number c.places.place, c.places-test.true, c.requires.room)

pub places-preserved : goal.places-preserved
places-preserved c =
    let names = c.args.named.now.names in
    let bit = bit_at c.args.of c.places.place in
    elim c.if-is_some.branch [
      | then-is_some+in_ok-add_bit w ↦
          let some : IsSome c.find.result = search (rules, c.is_some.ensures, w.if-is_some.true) in
          let keep : list_any (bit_eq bit) names ≡ true = found_any c.find.result bit names c.find.ensures.found some in
          let step = place_added c.args.builder.now c.places.builder c.if-is_some.builder names c.args.of c.args.number c.places.place c.places.invariant.builder c.places.invariant.earlier keep (w.builder-is ∙ w.in_ok-add_bit.ensures) in
          record { builder = step.0; earlier = step.1 }
      | else-is_some w ↦
          let none : Contains names bit → ⊥ = search (rules, c.is_some.ensures, w.if-is_some.false, c.find.ensures.none) in
          let keep : list_any (bit_eq bit) names ≡ false = missed_any bit names none in
          let step = place_passed c.args.builder.now c.if-is_some.builder names c.args.of c.args.number c.places.place (w.builder-is ∙ c.places.invariant.builder) (rw w.builder-is c.places.invariant.earlier) keep in
          record { builder = step.0; earlier = step.1 }
    ]
