use Rattle.std.proofs.Common.{◌≡◌, drop}
use Rattle.std.specs.Prelude.{Some}
use Rattle.bb_base.specs.Levels.{higher, highest, depth_in}
use Rattle.bb_netlist.proofs.levels.highest.Given as goal

abbrev pub invariant-loop-net : goal.invariant-loop-net
invariant-loop-net l = higher (Some l.best) (highest (depth_in l.depths) (drop l.net-index l.nets)) ≡ highest (depth_in l.depths) l.nets
