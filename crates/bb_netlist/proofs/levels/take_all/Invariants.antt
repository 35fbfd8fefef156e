use Rattle.std.proofs.Common.{◌≡◌, length}
use Rattle.std.specs.Prelude.{count_by}
use Rattle.bb_base.specs.Levels.{IsWork, work, is_open}
use Rattle.bb_netlist.proofs.levels.take_all.Given as goal

abbrev pub invariant-ready : goal.invariant-ready
invariant-ready l = record {
  long : length l.depths ≡ length l.initial.depths;
  work : IsWork (length l.initial.depths) l.gates (work l.depths l.waits l.ready.items);
}

abbrev pub decreases-ready : goal.decreases-ready
decreases-ready l = count_by is_open l.depths
