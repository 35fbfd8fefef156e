-- A net by its variable's name and its place from the left, whatever the variable's range is.
use Rattle.std.specs.Prelude.{ℕ, List, [], Option, None, Some, slice_get}
use Rattle.std.specs.Option.{option_map}
use Rattle.bb_base.specs.declared.variable.BitName.{BitName}
use Rattle.bb_base.specs.Variables.{Entry}
use Rattle.bb_base.specs.Net.{Netlist, renamed}
use Rattle.bb_base.specs.Named.{Named, name_of_net}

-- where a bit stands: in the variable of this name, at this place from the left
pub record Site : Type 0 where
  pub name : List ℕ
  pub place : ℕ

abbrev pub site_in : Option Entry → ℕ → Site
site_in None place = record { name = []; place = place }
site_in (Some v) place = record { name = v.0; place = place }

-- the site of a bit
abbrev pub site_of_bit : List Entry → BitName → Site
site_of_bit variables bit = site_in (slice_get variables bit.variable) bit.place

-- the site of a net
abbrev pub site_of : Named → ℕ → Site
site_of n net = site_of_bit n.variables (name_of_net n net)

-- a named netlist without numbers of nets
pub record Sited : Type 0 where
  pub module_name : List ℕ
  pub variables : List Entry
  pub clock : Option Site
  pub netlist : Netlist Site

abbrev pub sited : Named → Sited
sited n = record { module_name = n.module_name; variables = n.variables; clock = option_map (site_of_bit n.variables) n.clock; netlist = renamed (site_of n) n.netlist }
