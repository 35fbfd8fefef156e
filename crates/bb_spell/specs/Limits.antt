-- Limits under which a named netlist has a canonical text of its own, and is built from it.
use Rattle.std.specs.Prelude.{◌<◌, ◌≤◌, ◌^◌, length}
use Rattle.bb_base.specs.Named.{Named, IsNamed}
use Rattle.bb_base.specs.Building.{net_limit}

-- a named netlist with no more flip-flops than are numbered
pub record IsNumbered (n : Named) : Type 0 where
  pub named : IsNamed n
  pub flops : length n.netlist.flops ≤ 2 ^ 31

-- a named netlist whose variables and nets are few enough to be built
pub record IsBuildable (n : Named) : Type 0 where
  pub named : IsNamed n
  pub variables : length n.variables < 2 ^ 32
  pub nets : length n.names ≤ net_limit
