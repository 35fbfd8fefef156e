-- Netlists beside which a self-test's own nets can be named and numbered.
use Rattle.std.specs.Prelude.{◌≤◌}
use Rattle.bb_base.specs.Variables.{bit_count}
use Rattle.bb_base.specs.Order.{HasOrder}
use Rattle.bb_base.specs.Named.{Named, IsNamed}
use Rattle.bb_ctl.specs.OwnNames.{HasOwnNames}

-- a named netlist without a loop, whose names of this project's own are those of made wires, and which has few bits
pub record IsReady (a : Named) : Type 0 where
  pub named : IsNamed a
  pub ordered : HasOrder a.netlist.gates
  pub own_names : HasOwnNames a
  -- as many as a text may have whose names aren't this project's own
  pub few : bit_count a.variables ≤ 2097152
