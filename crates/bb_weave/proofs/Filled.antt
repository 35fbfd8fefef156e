-- A builder with all variables, nets, gates and flip-flops of the written netlist.
use Rattle.std.proofs.Common.{◌≡◌, ℕ, List, map, Contains}
use Rattle.bb_base.specs.Variables.{ports_of}
use Rattle.bb_base.specs.Net.{renamed_gate, renamed_flop, driven}
use Rattle.bb_base.specs.Named.{Named, IsConsistent}
use Rattle.bb_net.specs.Sites.{site_of}
use Rattle.bb_terms.specs.Plan.{PlanValue}
use Rattle.bb_terms.specs.declared.wire.Wire.{Wire}
use Rattle.bb_terms.specs.Numbering.{HasWire, net_at}
use Rattle.bb_written.specs.Cells.{flops}
use Rattle.bb_written.specs.Written.{written_netlist, written_variables, inner_wires, wire_site}
use Rattle.bb_lay.specs.Laying.{IsLaid, AreKept, laid_bits, clock_or}

-- the symbol's net stands where the symbol does
pub record IsFound (a n : Named) (kept : List ℕ) (w : Wire) : Type 0 where
  pub has : HasWire n kept w
  pub site : site_of n (net_at n kept w) ≡ wire_site a w

-- all of the written netlist is there, over numbers of nets
pub record IsFilled (a : Named) (p : PlanValue) (n : Named) (kept : List ℕ) : Type 0 where
  pub module_name : n.module_name ≡ a.module_name
  pub variables : n.variables ≡ written_variables a p
  pub clock : n.clock ≡ clock_or a.clock (ports_of a.variables)
  pub names : n.names ≡ laid_bits a (inner_wires a.netlist p)
  pub laid : IsLaid n
  pub kept_are : AreKept a n kept
  pub found : (w : Wire) → Contains (driven (written_netlist a.netlist p)) w → IsFound a n kept w
  pub gates : n.netlist.gates ≡ map (renamed_gate (net_at n kept)) (written_netlist a.netlist p).gates
  pub flops_are : n.netlist.flops ≡ map (renamed_flop (net_at n kept)) (flops p)
  pub consistent : IsConsistent n
