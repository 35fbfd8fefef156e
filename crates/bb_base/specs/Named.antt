-- A named netlist, and the design that it is under the names of texts.
use Rattle.std.specs.Prelude.{◌≡◌, ◌≢◌, ◌↔◌, ℕ, ◌<◌, ◌≤◌, true, List, ◌++◌, map, length, All, AllPairs, Option, Some, IsSome, slice_get, slice_index_or, position}
use Rattle.std.specs.Option.{option_map, ForSome}
use Rattle.std.specs.Str.{bytes_eq}
use Rattle.bb_base.specs.Net.{Netlist, renamed, driven, reads, times, HasArity, IsNetlist}
use Rattle.bb_base.specs.Name.{IsName}
use Rattle.bb_base.specs.Variables.{Entry, IsEntry, Bit, IsBit, bit_of, is_input, is_output, is_port, role_bits, StandsBefore}
use Rattle.bb_base.specs.declared.variable.BitName.{BitName}

-- a netlist whose nets are numbers, with its module's name, its variables in order, its clock's bit, and the bit name of each net
pub record Named : Type 0 where
  pub module_name : List ℕ
  pub variables : List Entry
  pub clock : Option BitName
  pub names : List BitName
  pub netlist : Netlist ℕ

-- the bit name of a net, where 0 of variable 0 stands for a number that is no net
abbrev pub name_of_net : Named → ℕ → BitName
name_of_net n net = slice_index_or n.names net (record { variable = 0; place = 0 })

-- the name of a net in texts
abbrev pub net_text : Named → ℕ → Bit
net_text n net = bit_of n.variables (name_of_net n net)

-- a module under the names of texts, with no numbers of nets
pub record Design : Type 0 where
  pub module_name : List ℕ
  pub variables : List Entry
  pub clock : Option Bit
  pub netlist : Netlist Bit

abbrev pub design_of : Named → Design
design_of n = record { module_name = n.module_name; variables = n.variables; clock = option_map (bit_of n.variables) n.clock; netlist = renamed (net_text n) n.netlist }

-- the number of the variable with this name
abbrev pub lookup_of : List ℕ → Named → Option ℕ
lookup_of name n = position (bytes_eq name) (map (λ v. v.0) n.variables)

-- the clock is a bit of an input that stands
pub record IsClock (variables : List Entry) (bit : BitName) : Type 0 where
  pub stands : IsBit variables bit
  pub input : is_input stands.entry.1.role ≡ true

-- names, places and nets fit together, though nets may still lack a driver or have two
pub record IsConsistent (n : Named) : Type 0 where
  pub module_name : IsName n.module_name
  pub entries : All IsEntry n.variables
  -- a port has only ports before it
  pub ports_first : (i j : ℕ) (v w : Entry) → i < j → slice_get n.variables i ≡ Some v → slice_get n.variables j ≡ Some w → is_port w.1.role ≡ true → is_port v.1.role ≡ true
  pub clock : ForSome n.clock (IsClock n.variables)
  -- each net's name is a bit of a variable, and not the clock's
  pub bits : All (IsBit n.variables) n.names
  pub apart_from_clock : ForSome n.clock (λ c. All (λ bit. bit ≢ c) n.names)
  -- inputs and outputs are the port bits in order
  pub inputs : map (name_of_net n) n.netlist.inputs ≡ role_bits is_input n.clock 0 n.variables
  pub outputs : map (name_of_net n) n.netlist.outputs ≡ role_bits is_output n.clock 0 n.variables
  pub ports : (net : ℕ) → times net (n.netlist.inputs ++ n.netlist.outputs) ≤ 1
  -- no number but a net's stands anywhere
  pub drives_nets : All (λ net. net < length n.names) (driven n.netlist)
  pub reads_nets : All (λ net. net < length n.names) (reads n.netlist)
  pub arities : All HasArity n.netlist.gates

-- a named netlist
pub record IsNamed (n : Named) : Type 0 where
  pub consistent : IsConsistent n
  -- every net has exactly one driver
  pub netlist : IsNetlist n.netlist
  -- there is a bit name for each net, and no two are alike
  pub names : length n.names ≡ length (driven n.netlist)
  pub alike : AllPairs (λ a b. a ≢ b) n.names
  -- no two variables have one name
  pub apart : AllPairs (λ v w. v.0 ≢ w.0) n.variables
  -- there is a clock exactly where there is a flip-flop
  pub clocked : IsSome n.clock ↔ (0 < length n.netlist.flops)

-- nets are numbered by variables, and from left to right
abbrev pub IsByBits : Named → Type 0
IsByBits n = AllPairs StandsBefore n.names
