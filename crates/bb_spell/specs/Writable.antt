-- What can be written and read: bits, gates, flip-flops and designs whose names are names and whose indices are small enough.
use Rattle.std.specs.Prelude.{◌≡◌, ◌≤◌, ℕ, ◌<◌, List, [], length, Option, None, Some}
use Rattle.std.specs.List.{AllByRecursion}
use Rattle.bb_base.specs.Name.{IsName}
use Rattle.bb_base.specs.Operators.{IsArity}
use Rattle.bb_base.specs.Variables.{Bit, IsEntry}
use Rattle.bb_base.specs.Net.{Gate, Flop}
use Rattle.bb_base.specs.Named.{Design}
use Rattle.bb_spell.specs.Canonical.{port_names}
use Rattle.bb_spell.specs.Front.{index_limit}

-- an index is below 2^31
abbrev pub IsIndex : Option ℕ → Type 0
IsIndex None = Unit {0}
IsIndex (Some i) = i < index_limit

-- a bit that can be written: its name is one, and its index is small enough
pub record IsBitText (b : Bit) : Type 0 where
  pub name : IsName b.name
  pub index : IsIndex b.index

-- a gate that can be written and read
pub record IsGateText (g : Gate Bit) : Type 0 where
  pub arity : IsArity g.op (length g.ins)
  pub out : IsBitText g.out
  pub ins : AllByRecursion IsBitText g.ins

-- a flip-flop that can be written and read
pub record IsFlopText (f : Flop Bit) : Type 0 where
  pub q : IsBitText f.q
  pub d : IsBitText f.d

-- a clock stands exactly where flip-flops do
abbrev pub HasClock : Option Bit → List (Flop Bit) → Type 0
HasClock None fs = fs ≡ []
HasClock (Some c) fs = IsBitText c × (0 < length fs)

-- a design that can be written and read
pub record IsText (d : Design) : Type 0 where
  pub name : IsName d.module_name
  pub ports : AllByRecursion IsName (port_names d.variables)
  pub variables : AllByRecursion IsEntry d.variables
  pub gates : AllByRecursion IsGateText d.netlist.gates
  pub flops : AllByRecursion IsFlopText d.netlist.flops
  pub clock : HasClock d.clock d.netlist.flops
  pub few : length d.netlist.flops ≤ index_limit
