use Rattle.std.proofs.Common.{arith}
use Rattle.bb_sample.proofs.VectorLemmas.{bits_more, earlier_more, bits_so_far}
use Rattle.bb_sample.proofs.ports.add_bits.Goals as goal

pub add_bit-requires-clause-room : goal.add_bit-requires-clause-room
add_bit-requires-clause-room c =
    let so_far = bits_so_far c.args.builder.now c.places.builder c.args.number c.places.place c.places.invariant.builder in
    omega (arith, so_far, c.requires.room, c.places-test.true)

pub places-preserved : goal.places-preserved
places-preserved c = record {
  builder = bits_more c.args.builder.now c.places.builder c.add_bit.new.builder c.args.number c.places.place c.places.invariant.builder c.in_ok-add_bit.ensures;
  earlier = earlier_more c.places.builder c.add_bit.new.builder c.args.number c.places.place c.places.invariant.earlier c.in_ok-add_bit.ensures;
}
