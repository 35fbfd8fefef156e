use Rattle.std.proofs.Common.{◌≢◌, ◌<◌, ℕ}
use Rattle.std.specs.Prelude.{None}
use Rattle.bb_base.specs.Levels.{depth_in}
use Rattle.bb_netlist.proofs.order.first_open.Given as goal

abbrev pub invariant-nets : goal.invariant-nets
invariant-nets l = (n : ℕ) → n < l.net → depth_in l.depths n ≢ None
