-- A sample in the making: what stands after each vector, before the first gate.
use Rattle.std.specs.Prelude.{◌≡◌, ℕ, ◌+◌, ◌-◌, ◌<◌, ◌≤◌, ◌^◌, Bool, true, false, List, [], ◌∷◌, ◌++◌, length, All, codes, None, if◌then◌else◌}
use Rattle.std.specs.List.{range_with_len}
use Rattle.std.specs.Option.{ForSome}
use Rattle.bb_base.specs.declared.variable.Role.{Role}
use Rattle.bb_base.specs.declared.variable.Role.TheVariants.{Input, Output, Wire}
use Rattle.bb_base.specs.declared.variable.BitName.{BitName}
use Rattle.bb_base.specs.Name.{IsName}
use Rattle.bb_base.specs.Variables.{IsBit, is_input, is_output, is_port, bit_at}
use Rattle.bb_base.specs.Named.{Named, IsConsistent, lookup_of}
use Rattle.bb_base.specs.Building.{net_limit}
use Rattle.bb_sample.specs.Sample.{vector, bits_of, clock_entry, sample_clock, input_count, output_count, flop_count}

-- these names behind the others
abbrev pub with_more_bits : Named → List BitName → Named
with_more_bits n bits = record n { names = n.names ++ bits }

-- a vector behind the others, all of whose bits are nets
abbrev pub with_vector : Named → List ℕ → Role → ℕ → Named
with_vector n name role width = record n {
  variables = n.variables ++ vector name role width ∷ [];
  names = n.names ++ bits_of (length n.variables) width;
  netlist = record n.netlist {
    inputs = if is_input role then n.netlist.inputs ++ range_with_len (length n.names) width else n.netlist.inputs;
    outputs = if is_output role then n.netlist.outputs ++ range_with_len (length n.names) width else n.netlist.outputs;
  };
}

-- such a vector can be added: its name is new, there is room for its nets, and a port has only ports before it
pub record CanAdd (n : Named) (name : List ℕ) (role : Role) (width : ℕ) : Type 0 where
  pub consistent : IsConsistent n
  pub valid : IsName name
  pub fresh : lookup_of name n ≡ None
  pub few : length n.variables < 2 ^ 32 - 1
  pub some : 1 ≤ width
  pub narrow : width ≤ 2 ^ 31
  pub ports_first : is_port role ≡ true → All (λ v. is_port v.1.role ≡ true) n.variables
  pub room : length n.names + width ≤ net_limit

-- so many bits of the variable of this number can be made nets: nets so far, and the clock, are bits of variables before it
pub record CanMake (n : Named) (number width : ℕ) : Type 0 where
  pub bits : (place : ℕ) → place < width → IsBit n.variables (bit_at number place)
  pub before : All (λ bit. bit.variable < number) n.names
  pub clock_before : ForSome n.clock (λ c. c.variable < number)
  pub room : length n.names + width ≤ net_limit

-- the module, with its clock or without one
unfoldable pub begun : Bool → Named
begun true = record { module_name = codes "sample"; variables = clock_entry ∷ []; clock = sample_clock true; names = []; netlist = record { inputs = []; outputs = []; gates = []; flops = [] } }
begun false = record { module_name = codes "sample"; variables = []; clock = sample_clock false; names = []; netlist = record { inputs = []; outputs = []; gates = []; flops = [] } }

-- and with its inputs
unfoldable pub with_inputs : Bool → Named
with_inputs clocked = with_vector (begun clocked) (codes "i") Input input_count

-- and with its outputs
unfoldable pub with_ports : Bool → ℕ → Named
with_ports clocked number = with_vector (with_inputs clocked) (codes "o") Output (output_count number)

-- and with the bits of its flip-flops
unfoldable pub with_states : Bool → ℕ → Named
with_states true number = with_vector (with_ports true number) (codes "q") Wire (flop_count number)
with_states false number = with_ports false number

-- and with its gates' outputs
unfoldable pub laid : Bool → ℕ → Named
laid clocked number = with_vector (with_states clocked number) (codes "g") Wire number
