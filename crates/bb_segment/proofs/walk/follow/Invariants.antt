use Rattle.std.proofs.Common.{◌≡◌, ◌≤◌, ◌-◌, length, take}
use Rattle.bb_terms.specs.Support.{stop_at}
use Rattle.bb_segment.specs.Walks.{IsMet, IsWalk}
use Rattle.bb_segment.proofs.walk.follow.Given as goal

abbrev pub invariant-places : goal.invariant-places
invariant-places l = record {
  long : length l.marks ≡ length l.fn.marks;
  met : IsMet l.marks l.met l.end;
  within : l.next ≤ l.end;
  walk : IsWalk l.netlist.gates (stop_at l.stops) (take l.fn.end l.fn.met) (take l.end l.met) l.next;
}

abbrev pub decreases-places : goal.decreases-places
decreases-places l = length l.met - l.next
