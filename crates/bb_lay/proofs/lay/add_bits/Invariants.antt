use Rattle.std.proofs.Common.{◌≡◌, All}
use Rattle.bb_base.specs.Building.{IsEarlier}
use Rattle.bb_lay.specs.Laying.{with_bits, net_bits}
use Rattle.bb_lay.proofs.lay.add_bits.Given as goal

abbrev pub invariant-places : goal.invariant-places
invariant-places l = record {
  builder : l.builder ≡ with_bits l.fn.builder (net_bits l.named.names l.of l.number l.place);
  earlier : All (IsEarlier l.number l.place) l.builder.names;
}
