use Rattle.std.specs.Prelude.{count_by}
use Rattle.bb_base.specs.Levels.{is_open}
use Rattle.bb_netlist.proofs.WalkLemmas.{Walk}
use Rattle.bb_netlist.proofs.order.walk_back.Given as goal

abbrev pub invariant-steps : goal.invariant-steps
invariant-steps l = Walk l.netlist.gates l.depths l.places.items l.fn.start l.walk.items l.net

abbrev pub decreases-steps : goal.decreases-steps
decreases-steps l = count_by is_open l.places.items
