use Rattle.std.proofs.Common.{◌≡◌, length}
use Rattle.bb_segment.specs.Cutting.{AreReadersAt}
use Rattle.bb_segment.proofs.readers.note_places.Given as goal

abbrev pub invariant-places : goal.invariant-places
invariant-places l = record {
  long : length l.readers ≡ length l.fn.readers;
  are : AreReadersAt l.gates l.order l.place l.readers;
}
