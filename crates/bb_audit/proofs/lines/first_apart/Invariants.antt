use Rattle.std.proofs.Common.{map}
use Rattle.bb_audit.specs.Certified.{line_cells, segment_cells}
use Rattle.bb_alike.proofs.ListLemmas.{AgreeTo}
use Rattle.bb_audit.proofs.lines.first_apart.Given as goal

abbrev pub invariant-segments : goal.invariant-segments
invariant-segments l = AgreeTo line_cells l.lines (map segment_cells l.segments) l.place
