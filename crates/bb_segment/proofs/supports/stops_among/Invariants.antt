use Rattle.std.proofs.Common.{◌≡◌, take}
use Rattle.std.specs.Prelude.{filter}
use Rattle.bb_terms.specs.Support.{stop_at}
use Rattle.bb_segment.proofs.supports.stops_among.Given as goal

abbrev pub invariant-nets : goal.invariant-nets
invariant-nets l = l.among.items ≡ filter (stop_at l.stops) (take l.net-index l.nets)
