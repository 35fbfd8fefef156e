-- Numbers for symbols: the net that stands for each symbol in a netlist that is being built.
use Rattle.std.specs.Prelude.{◌≡◌, ◌≢◌, ℕ, ◌<◌, ◌≤◌, List, ◌∷◌, length, All, AllPairs, Option, None, Some, slice_get}
use Rattle.std.specs.List.{flat_map}
use Rattle.std.specs.Option.{ForSome}
use Rattle.bb_base.specs.Variables.{bit_at}
use Rattle.bb_base.specs.Net.{Gate}
use Rattle.bb_base.specs.Named.{Named, lookup_of}
use Rattle.bb_base.specs.Building.{find_of, net_limit}
use Rattle.bb_terms.specs.declared.wire.Wire.{Wire}
use Rattle.bb_terms.specs.declared.wire.Wire.TheVariants.{Kept}
use Rattle.bb_terms.specs.Wires.{symbol_name}

-- the original's net that the symbol is
abbrev pub kept_of : Wire → Option ℕ
kept_of (Kept net) = Some net
kept_of w = None

-- the net of the first bit of the variable of this number
abbrev pub found_net : Named → Option ℕ → Option ℕ
found_net b None = None
found_net b (Some variable) = find_of (bit_at variable 0) b

-- the net of an added symbol has its name; that of one of the original's nets is as `kept` says
abbrev pub net_by : Named → List ℕ → List ℕ → Option ℕ → Option ℕ
net_by b kept name None = found_net b (lookup_of name b)
net_by b kept name (Some net) = slice_get kept net

-- the net of a symbol, where `kept` has the net of each of the original's nets
abbrev pub net_for : Named → List ℕ → Wire → Option ℕ
net_for b kept w = net_by b kept (symbol_name w) (kept_of w)

-- the symbol has a net
pub record HasWire (b : Named) (kept : List ℕ) (w : Wire) : Type 0 where
  pub net : ℕ
  pub found : net_for b kept w ≡ Some net
  pub stands : net < length b.names

abbrev pub number_or_zero : Option ℕ → ℕ
number_or_zero None = 0
number_or_zero (Some net) = net

-- the number of its net
abbrev pub net_at : Named → List ℕ → Wire → ℕ
net_at b kept w = number_or_zero (net_for b kept w)

-- the symbols in a table
abbrev pub wires_in : List (Gate Wire) → List Wire
wires_in rows = flat_map (λ g. g.out ∷ g.ins) rows

-- the nets are few enough, each is of another bit, and none is the clock's
pub record HasDistinctNets (b : Named) : Type 0 where
  pub few : length b.names ≤ net_limit
  pub distinct : AllPairs (λ x y. x ≢ y) b.names
  pub apart_from_clock : ForSome b.clock (λ c. All (λ bit. bit ≢ c) b.names)
