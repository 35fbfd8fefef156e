use Rattle.std.proofs.Common.{◌≡◌, All}
use Rattle.bb_base.specs.Building.{IsEarlier}
use Rattle.bb_assemble.specs.Assembling.{is_kept, kept_bits, with_names}
use Rattle.bb_assemble.proofs.assembly.add_places.Given as goal

abbrev pub invariant-loop-place : goal.invariant-loop-place
invariant-loop-place l = record {
  builder : l.builder ≡ with_names l.fn.builder (kept_bits (is_kept l.numbers l.count) l.extent.number l.extent.first l.place);
  earlier : All (IsEarlier l.extent.number l.place) l.builder.names;
}
