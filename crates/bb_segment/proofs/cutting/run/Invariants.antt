use Rattle.std.proofs.Common.{◌≡◌, length}
use Rattle.bb_segment.specs.Cutting.{IsCutting, weight}
use Rattle.bb_segment.proofs.cutting.run.Given as goal

abbrev pub invariant-places : goal.invariant-places
invariant-places l = record {
  long : length l.state.stops.items ≡ length l.fn.state.stops.items;
  cutting : IsCutting l.gates l.order l.width l.state.stops.items l.state.table.items l.state.queue.keys l.state.turns.items;
}

abbrev pub decreases-places : goal.decreases-places
decreases-places l = weight (length l.order) l.state.stops.items l.state.queue.keys
