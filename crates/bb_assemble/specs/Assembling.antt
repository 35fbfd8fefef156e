-- What holds while a named netlist is put together.
-- (No outcome rests on these: they serve contracts of inner calls and proofs.)
use Rattle.std.specs.Prelude.{◌≡◌, ℕ, ◌+◌, ◌-◌, ◌<◌, nat_eq, nat_lt, nat_le, Bool, true, false, not, ◌&&◌, List, [], ◌∷◌, ◌++◌, map, length, filter, Option, Some, None, slice_get, slice_index, if◌then◌else◌, All}
use Rattle.std.specs.List.{range_with_len, position_or_len}
use Rattle.bb_base.specs.declared.variable.BitName.{BitName}
use Rattle.bb_base.specs.Variables.{Entry, is_port, bit_at, bit_count}
use Rattle.bb_base.specs.Net.{Gate, Flop}
use Rattle.bb_base.specs.Named.{Named}
use Rattle.bb_base.specs.Building.{clock_with}
use Rattle.bb_fault.specs.Work.{Clocked}
use Rattle.bb_drive.specs.Origins.{is_marked}
use Rattle.bb_drive.specs.Nets.{bits_from, bit_name, has_bit}

-- a port has only ports before it
abbrev pub ArePortsFirst : List Entry → Type 0
ArePortsFirst vars = (i j : ℕ) (v w : Entry) → i < j → slice_get vars i ≡ Some v → slice_get vars j ≡ Some w → is_port w.1.role ≡ true → is_port v.1.role ≡ true

-- the number that stands for a bit
abbrev pub number_for : List ℕ → ℕ → ℕ
number_for numbers b = slice_index numbers b

-- each bit below a number is numbered by its place among those that are flagged
pub record IsNumbering (fresh : ℕ) (bits : List ℕ) (flags : List Bool) (numbers : List ℕ) (count : ℕ) : Type 0 where
  pub long : length numbers ≡ fresh
  pub count_is : count ≡ length (filter (is_marked flags) bits)
  pub each : (b : ℕ) → b < fresh → slice_get numbers b ≡ Some (position_or_len (nat_eq b) (filter (is_marked flags) bits))

-- a bit is kept where its number is one of so many nets
abbrev pub is_kept : List ℕ → ℕ → ℕ → Bool
is_kept numbers count b = nat_lt (number_for numbers b) count

-- the bit has one of so many nets
abbrev pub HasNet : List ℕ → ℕ → ℕ → Type 0
HasNet numbers count b = number_for numbers b < count

-- the bits of a gate have nets
pub record HasNets (numbers : List ℕ) (count : ℕ) (g : Gate ℕ) : Type 0 where
  pub out : HasNet numbers count g.out
  pub ins : All (HasNet numbers count) g.ins

-- and those of a flip-flop
abbrev pub HasBothNets : List ℕ → ℕ → Clocked → Type 0
HasBothNets numbers count f = HasNet numbers count f.q × HasNet numbers count f.d

-- the bits of a gate whose output is flagged have nets
abbrev pub HasNetsWhereFlagged : List ℕ → ℕ → List Bool → Gate ℕ → Type 0
HasNetsWhereFlagged numbers count flags g = is_marked flags g.out ≡ true → HasNets numbers count g

-- the bit is the clock's
abbrev pub is_clock_bit : Option ℕ → ℕ → Bool
is_clock_bit None b = false
is_clock_bit (Some c) b = nat_eq c b

-- the place of the clock's bit in a variable of this width whose bits begin at this number
abbrev pub bit_place : Option ℕ → ℕ → ℕ → Option ℕ
bit_place None first width = None
bit_place (Some c) first width = if nat_le first c && nat_lt (c - first) width then Some (c - first) else None

-- the first so many places of a variable that are kept, where its bits begin at this number
abbrev pub kept_places : (ℕ → Bool) → ℕ → ℕ → List ℕ
kept_places keeps first count = filter (λ p. keeps (first + p)) (range_with_len 0 count)

-- a variable's kept bits
abbrev pub kept_bits : (ℕ → Bool) → ℕ → ℕ → ℕ → List BitName
kept_bits keeps number first width = map (bit_at number) (kept_places keeps first width)

-- names behind the others
abbrev pub with_names : Named → List BitName → Named
with_names n names = record n { names = n.names ++ names }

-- a variable and names stand behind the others, and ports as a builder numbers them
pub record Adds (old new : Named) (entry : Entry) (place : Option ℕ) (names : List BitName) : Type 0 where
  pub module_name : new.module_name ≡ old.module_name
  pub variables : new.variables ≡ old.variables ++ entry ∷ []
  pub clock : new.clock ≡ clock_with old.clock (length old.variables) place
  pub names_are : new.names ≡ old.names ++ names
  pub gates : new.netlist.gates ≡ old.netlist.gates
  pub flops : new.netlist.flops ≡ old.netlist.flops

-- the clock's bit name, once the variables with so many bits stand
abbrev pub clock_below : List Entry → ℕ → Option ℕ → Option BitName
clock_below vars count None = None
clock_below vars count (Some c) = if nat_lt c count then Some (bit_name 0 vars c) else None

-- the first of these variables stand, with their kept bits as nets, and nothing else is new
pub record AreAdded (old : Named) (clock : Option ℕ) (keeps : ℕ → Bool) (vars : List Entry) (n : Named) : Type 0 where
  pub module_name : n.module_name ≡ old.module_name
  pub clock_is : n.clock ≡ clock_below vars (bit_count n.variables) clock
  pub names : n.names ≡ map (bit_name 0 vars) (filter keeps (range_with_len 0 (bit_count n.variables)))
  pub gates : n.netlist.gates ≡ old.netlist.gates
  pub flops : n.netlist.flops ≡ old.netlist.flops

-- every port bit below this number is kept, but the clock's
abbrev pub KeepsPorts : List Entry → ℕ → Option ℕ → (ℕ → Bool) → Type 0
KeepsPorts vars fresh clock keeps = (b : ℕ) → b < fresh → has_bit (bits_from is_port 0 vars) b ≡ true → keeps b ≡ not (is_clock_bit clock b)

-- a flip-flop over numbers of nets
abbrev pub numbered_flop : (ℕ → ℕ) → Clocked → Flop ℕ
numbered_flop number f = record { q = number f.q; d = number f.d }
