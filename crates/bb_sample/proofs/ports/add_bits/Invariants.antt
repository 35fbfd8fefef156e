use Rattle.std.proofs.Common.{◌≡◌, All}
use Rattle.bb_base.specs.Building.{IsEarlier}
use Rattle.bb_sample.specs.Sample.{bits_of}
use Rattle.bb_sample.specs.Laying.{with_more_bits}
use Rattle.bb_sample.proofs.ports.add_bits.Given as goal

abbrev pub invariant-places : goal.invariant-places
invariant-places l = record {
  builder : l.builder ≡ with_more_bits l.fn.builder (bits_of l.number l.place);
  earlier : All (IsEarlier l.number l.place) l.builder.names;
}
