use Rattle.std.proofs.Common.{◌≡◌, take}
use Rattle.std.specs.Prelude.{count_by}
use Rattle.bb_terms.specs.Support.{stop_at}
use Rattle.bb_segment.proofs.supports.count_stops.Given as goal

abbrev pub invariant-nets : goal.invariant-nets
invariant-nets l = l.count ≡ count_by (stop_at l.stops) (take l.net-index l.nets)
