-- What the calls of a builder make of the netlist so far.
use Rattle.std.specs.Prelude.{◌≡◌, ℕ, ◌+◌, ◌<◌, ◌≤◌, Bool, true, List, [], ◌∷◌, ◌++◌, map, length, Option, None, Some, if◌then◌else◌, position, slice_get}
use Rattle.std.specs.List.{list_any, range_with_len}
use Rattle.bb_base.specs.declared.operator.Op.{Op}
use Rattle.bb_base.specs.declared.variable.Variable.{Variable}
use Rattle.bb_base.specs.declared.variable.BitName.{BitName}
use Rattle.bb_base.specs.Variables.{Entry, Bit, bit_in, range_width, is_input, is_output, is_port, bit_at, places_but, bit_eq}
use Rattle.bb_base.specs.Net.{Gate, Flop}
use Rattle.bb_base.specs.Named.{Named, lookup_of}

-- at most so many nets are built
abbrev pub net_limit : ℕ
net_limit = 134217728

-- no variables and no nets
abbrev pub started : List ℕ → Named
started name = record { module_name = name; variables = []; clock = None; names = []; netlist = record { inputs = []; outputs = []; gates = []; flops = [] } }

-- the clock once a variable of this number was added, of which this place was given as the clock
abbrev pub clock_with : Option BitName → ℕ → Option ℕ → Option BitName
clock_with clock number None = clock
clock_with clock number (Some place) = Some (record { variable = number; place = place })

-- the bits that a variable of this number makes nets of at once: those of a port but the clock
abbrev pub port_bits : ℕ → Variable → Option ℕ → List BitName
port_bits number v place = if is_port v.role then map (bit_at number) (places_but place (range_width v.range)) else []

-- the nets of such bits where they are wanted
abbrev pub new_nets : Bool → ℕ → ℕ → List ℕ
new_nets wanted first count = if wanted then range_with_len first count else []

-- a variable behind the others
abbrev pub with_variable : Named → List ℕ → Variable → Option ℕ → Named
with_variable n name v place =
    let bits = port_bits (length n.variables) v place in
    record {
      module_name = n.module_name;
      variables = n.variables ++ (name, v) ∷ [];
      clock = clock_with n.clock (length n.variables) place;
      names = n.names ++ bits;
      netlist = record {
        inputs = n.netlist.inputs ++ new_nets (is_input v.role) (length n.names) (length bits);
        outputs = n.netlist.outputs ++ new_nets (is_output v.role) (length n.names) (length bits);
        gates = n.netlist.gates;
        flops = n.netlist.flops;
      };
    }

-- the place may be given as the clock of such a variable: it is a bit of an input, and the first clock
pub record MayClock (n : Named) (v : Variable) (place : ℕ) : Type 0 where
  pub input : is_input v.role ≡ true
  pub within : place < range_width v.range
  pub first : n.clock ≡ None

-- such a variable makes more nets than are built: so many, where the most is the limit
pub record IsTooMany (n : Named) (name : List ℕ) (v : Variable) (place : Option ℕ) (count limit : ℕ) : Type 0 where
  pub fresh : lookup_of name n ≡ None
  pub count_is : count ≡ length n.names + length (port_bits (length n.variables) v place)
  pub limit_is : limit ≡ net_limit
  pub beyond : limit < count

-- the net of a bit
abbrev pub find_of : BitName → Named → Option ℕ
find_of bit n = position (bit_eq bit) n.names

-- a net for this bit, behind the others where it has none
abbrev pub with_net : Named → BitName → Named
with_net n bit = record n { names = if list_any (bit_eq bit) n.names then n.names else n.names ++ bit ∷ [] }

-- a gate behind the others
abbrev pub with_gate : Named → Op → ℕ → List ℕ → Named
with_gate n op out ins = record n { netlist = record n.netlist { gates = n.netlist.gates ++ record { op = op; out = out; ins = ins } ∷ [] } }

-- a flip-flop behind the others
abbrev pub with_flop : Named → ℕ → ℕ → Named
with_flop n q d = record n { netlist = record n.netlist { flops = n.netlist.flops ++ record { q = q; d = d } ∷ [] } }

-- more gates, and more flip-flops, behind the others
abbrev pub with_gates : Named → List (Gate ℕ) → Named
with_gates n gates = record n { netlist = record n.netlist { gates = n.netlist.gates ++ gates } }

abbrev pub with_flops : Named → List (Flop ℕ) → Named
with_flops n flops = record n { netlist = record n.netlist { flops = n.netlist.flops ++ flops } }

-- every item stands where it stood
abbrev pub KeepsAll : {X : Type 0} → List X → List X → Type 0
KeepsAll {X} old new = (i : ℕ) (x : X) → slice_get old i ≡ Some x → slice_get new i ≡ Some x

-- variables and nets are added, and nothing else changes
pub record Grows (old new : Named) : Type 0 where
  pub module_name : new.module_name ≡ old.module_name
  pub variables : KeepsAll old.variables new.variables
  pub names : KeepsAll old.names new.names
  pub gates : new.netlist.gates ≡ old.netlist.gates
  pub flops : new.netlist.flops ≡ old.netlist.flops

-- the number is a net of this name
pub record IsNet (n : Named) (net : ℕ) (text : Bit) : Type 0 where
  pub bit : BitName
  pub stands : slice_get n.names net ≡ Some bit
  pub entry : Entry
  pub declared : slice_get n.variables bit.variable ≡ Some entry
  pub text_is : bit_in (Some entry) bit.place ≡ text

-- the bit comes before those of this variable from this place on
abbrev pub IsEarlier : ℕ → ℕ → BitName → Type 0
IsEarlier number place bit = (bit.variable ≡ number → bit.place < place) × (bit.variable ≤ number)
