use Rattle.std.proofs.Common.{◌≡◌, ◌≤◌, take}
use Rattle.bb_base.specs.Levels.{open_count, depth_in}
use Rattle.bb_netlist.proofs.levels.open_count.Given as goal

abbrev pub invariant-loop-net : goal.invariant-loop-net
invariant-loop-net l = record {
  count : l.count ≡ open_count (depth_in l.depths) (take l.net-index l.nets);
  few : l.count ≤ l.net-index;
}
