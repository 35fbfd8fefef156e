-- When a netlist is the written one: module, ports and clock, and at each net the same driver. Nothing is asked of orders.
use Rattle.std.specs.Prelude.{◌≡◌, ◌↔◌, take, Contains}
use Rattle.bb_base.specs.Net.{Gate, Flop}
use Rattle.bb_base.specs.Variables.{ports_of}
use Rattle.bb_base.specs.Named.{Named}
use Rattle.bb_net.specs.Sites.{Site, Sited, sited}

pub record Mirrors (w : Sited) (b : Named) : Type 0 where
  pub module_name : b.module_name ≡ w.module_name
  pub ports : take (ports_of b.variables) b.variables ≡ take (ports_of w.variables) w.variables
  pub clock : (sited b).clock ≡ w.clock
  pub inputs : (sited b).netlist.inputs ≡ w.netlist.inputs
  pub outputs : (sited b).netlist.outputs ≡ w.netlist.outputs
  pub gates : (g : Gate Site) → Contains (sited b).netlist.gates g ↔ Contains w.netlist.gates g
  pub flops : (f : Flop Site) → Contains (sited b).netlist.flops f ↔ Contains w.netlist.flops f
