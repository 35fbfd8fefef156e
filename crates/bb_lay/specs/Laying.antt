-- What is laid before the first gate: variables, and the bits of them that are nets, one after another.
use Rattle.std.specs.Prelude.{◌≡◌, ◌≢◌, ℕ, ◌+◌, ◌<◌, ◌≤◌, nat_lt, true, List, [], ◌∷◌, ◌++◌, map, filter, take, drop, length, slice_index, All, AllPairs, Option, Some, None, slice_get, if◌then◌else◌}
use Rattle.std.specs.List.{list_any, range_with_len}
use Rattle.std.specs.Option.{ForSome}
use Rattle.bb_base.specs.declared.variable.BitName.{BitName}
use Rattle.bb_base.specs.Variables.{Entry, IsEntry, is_port, range_width, bit_at, bit_eq, bit_count, ports_of, role_bits, StandsBefore}
use Rattle.bb_base.specs.Named.{Named, name_of_net}
use Rattle.bb_base.specs.Building.{net_limit}
use Rattle.bb_base.specs.Net.{Flop}
use Rattle.bb_terms.specs.Numbering.{HasWire}
use Rattle.bb_terms.specs.declared.wire.Wire.{Wire}
use Rattle.bb_written.specs.Written.{added_clock, added_ports, inner_entry}

-- these variables, and these bits as nets, were added behind those before, and this is the clock
pub record AddsAll (old new : Named) (entries : List Entry) (bits : List BitName) (clock : Option BitName) : Type 0 where
  pub module_name : new.module_name ≡ old.module_name
  pub variables : new.variables ≡ old.variables ++ entries
  pub clock_is : new.clock ≡ clock
  pub names : new.names ≡ old.names ++ bits
  pub gates : new.netlist.gates ≡ old.netlist.gates
  pub flops : new.netlist.flops ≡ old.netlist.flops

-- variables that can stand together in a builder
pub record CanStand (variables : List Entry) : Type 0 where
  pub entries : All IsEntry variables
  pub apart : AllPairs (λ v w. v.0 ≢ w.0) variables
  pub ports_first : (i j : ℕ) (v w : Entry) → i < j → slice_get variables i ≡ Some v → slice_get variables j ≡ Some w → is_port w.1.role ≡ true → is_port v.1.role ≡ true
  pub few : bit_count variables ≤ net_limit

-- nets are numbered by variables and from left to right, and each is a bit of a variable that stands, but not the clock's
pub record IsLaid (n : Named) : Type 0 where
  pub ascending : AllPairs StandsBefore n.names
  pub below : All (λ bit. bit.variable < length n.variables) n.names
  pub few : length n.names ≤ bit_count n.variables
  pub clock_below : ForSome n.clock (λ c. c.variable < length n.variables)
  pub apart_from_clock : ForSome n.clock (λ c. All (λ bit. bit ≢ c) n.names)

-- the bits at these places of the variable of this number in the original that are nets, under another number
abbrev pub net_bits : List BitName → ℕ → ℕ → ℕ → List BitName
net_bits names of number count = map (bit_at number) (filter (λ place. list_any (bit_eq (bit_at of place)) names) (range_with_len 0 count))

-- those of these variables, of which the first has such numbers
abbrev pub all_net_bits : List BitName → ℕ → ℕ → List Entry → List BitName
all_net_bits names of number [] = []
all_net_bits names of number (v ∷ vs) = net_bits names of number (range_width v.1.range) ++ all_net_bits names (of + 1) (number + 1) vs

-- the bits of so many scalar variables from this number on
abbrev pub scalar_bits : ℕ → ℕ → List BitName
scalar_bits number count = map (λ n. bit_at n 0) (range_with_len number count)

-- names behind the others
abbrev pub with_bits : Named → List BitName → Named
with_bits n bits = record n { names = n.names ++ bits }

-- the new number of a variable of the original, where so many ports stand before the added ones
abbrev pub new_number : ℕ → ℕ → ℕ → ℕ
new_number ports added number = if nat_lt number ports then number else number + added

-- the clock's bit, where so many variables stand before an added one
abbrev pub clock_or : Option BitName → ℕ → Option BitName
clock_or (Some c) count = Some c
clock_or None count = Some (bit_at count 0)

-- the original's number of ports, and how many variables stand between them and its wires
abbrev pub wires_from : Named → ℕ
wires_from a = ports_of a.variables + length (added_clock a.clock ++ added_ports)

-- all variables, where these are the added wires
abbrev pub laid_variables : Named → List Wire → List Entry
laid_variables a wires =
    take (ports_of a.variables) a.variables ++ ((added_clock a.clock ++ added_ports) ++ (drop (ports_of a.variables) a.variables ++ map inner_entry wires))

-- all bits that are nets, in order
abbrev pub laid_bits : Named → List Wire → List BitName
laid_bits a wires =
    role_bits is_port a.clock 0 (take (ports_of a.variables) a.variables)
    ++ (scalar_bits (ports_of a.variables + length (added_clock a.clock)) 4
    ++ (all_net_bits a.names (ports_of a.variables) (wires_from a) (drop (ports_of a.variables) a.variables) ++ scalar_bits (wires_from a + length (drop (ports_of a.variables) a.variables)) (length wires)))

-- each net of the original has a net of its bit, under the variable's new number
pub record AreKept (a b : Named) (kept : List ℕ) : Type 0 where
  pub long : length kept ≡ length a.names
  pub each : (net : ℕ) → net < length a.names
      → slice_get b.names (slice_index kept net) ≡ Some (bit_at (new_number (ports_of a.variables) (length (added_clock a.clock ++ added_ports)) (name_of_net a net).variable) (name_of_net a net).place)

-- both nets of a flip-flop stand
abbrev pub HasBothWires : Named → List ℕ → Flop Wire → Type 0
HasBothWires b kept f = HasWire b kept f.q × HasWire b kept f.d
