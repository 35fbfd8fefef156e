-- A draft on the way to a netlist whose text is read. No public contract cites this.
use Rattle.std.specs.Prelude.{◌≡◌, ◌≢◌, ℕ, ◌<◌, nat_lt, List, [], ◌++◌, length, map, AllPairs, Contains, Option, None, Some, if◌then◌else◌}
use Rattle.std.specs.List.{AllByRecursion}
use Rattle.bb_base.specs.declared.variable.BitName.{BitName}
use Rattle.bb_base.specs.Net.{Gate, Flop, renamed_gate, renamed_flop, HasArity}
use Rattle.bb_base.specs.Variables.{Entry, is_port, role_bits}
use Rattle.bb_base.specs.Named.{Named, IsConsistent, name_of_net}

-- n has the variables of a, nets of a with no two alike, and these gates and flip-flops of a, under the same names
pub record IsDrawn (a n : Named) (gates : List (Gate ℕ)) (flops : List (Flop ℕ)) : Type 0 where
  pub module_name : n.module_name ≡ a.module_name
  pub variables : n.variables ≡ a.variables
  pub clock : n.clock ≡ a.clock
  pub consistent : IsConsistent n
  pub within : AllByRecursion (Contains a.names) n.names
  pub alike : AllPairs (λ a b. a ≢ b) n.names
  pub gates_are : map (renamed_gate (name_of_net n)) n.netlist.gates ≡ map (renamed_gate (name_of_net a)) gates
  pub flops_are : map (renamed_flop (name_of_net n)) n.netlist.flops ≡ map (renamed_flop (name_of_net a)) flops

-- a gate of a
pub record IsGateOf (a : Named) (g : Gate ℕ) : Type 0 where
  pub arity : HasArity g
  pub out : g.out < length a.names
  pub ins : AllByRecursion (λ net. net < length a.names) g.ins

-- a flip-flop of a
pub record IsFlopOf (a : Named) (f : Flop ℕ) : Type 0 where
  pub q : f.q < length a.names
  pub d : f.d < length a.names

-- the clock, where it is a bit of one of the first so many variables
abbrev pub clock_among : Option BitName → ℕ → Option BitName
clock_among None count = None
clock_among (Some c) count = if nat_lt c.variable count then Some c else None

-- n has the variables of a but those left, the bits of their ports as nets, and no gate and no flip-flop
pub record IsDeclared (a n : Named) (left : List Entry) : Type 0 where
  pub module_name : n.module_name ≡ a.module_name
  pub variables : n.variables ++ left ≡ a.variables
  pub clock : n.clock ≡ clock_among a.clock (length n.variables)
  pub consistent : IsConsistent n
  pub names : n.names ≡ role_bits is_port a.clock 0 n.variables
  pub gates : n.netlist.gates ≡ []
  pub flops : n.netlist.flops ≡ []
