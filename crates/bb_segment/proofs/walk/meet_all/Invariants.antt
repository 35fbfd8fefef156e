use Rattle.std.proofs.Common.{◌≡◌, ◌≤◌, length, take}
use Rattle.bb_segment.specs.Walks.{IsMet, HasMore}
use Rattle.bb_segment.proofs.walk.meet_all.Given as goal

abbrev pub invariant-nets : goal.invariant-nets
invariant-nets l = record {
  long : length l.marks ≡ length l.fn.marks;
  met : IsMet l.marks l.met l.end;
  front : take l.fn.end l.met ≡ take l.fn.end l.fn.met;
  more : l.fn.end ≤ l.end;
  has : HasMore (take l.fn.end l.fn.met) (take l.net-index l.nets) (take l.end l.met);
}
