-- Variables and their bits: what a place from the left, and a written index, mean in either direction of a range.
use Rattle.std.specs.Prelude.{◌≡◌, ◌⊎◌, ℕ, ◌+◌, ◌-◌, ◌<◌, ◌^◌, ◌==◌, ◌&&◌, Bool, true, false, nat_le, nat_eq, List, [], ◌∷◌, ◌++◌, map, count_by, Option, None, Some, if◌then◌else◌, slice_get}
use Rattle.std.specs.List.{range_with_len}
use Rattle.std.specs.Option.{option_map}
use Rattle.bb_base.specs.Name.{IsName}
use Rattle.bb_base.specs.declared.variable.Role.{Role}
use Rattle.bb_base.specs.declared.variable.Role.TheVariants.{Input, Output, Wire}
use Rattle.bb_base.specs.declared.variable.Variable.{Variable}
use Rattle.bb_base.specs.declared.variable.BitName.{BitName}

-- how many bits a range has; without one it is a single bit
abbrev pub range_width : Option (ℕ × ℕ) → ℕ
range_width None = 1
range_width (Some r) = (r.0 - r.1) + (r.1 - r.0) + 1

-- the index that is written for a place from the left: indices run from the range's left number to its right one
abbrev pub index_at : ℕ × ℕ → ℕ → ℕ
index_at r place = if nat_le r.0 r.1 then r.0 + place else r.0 - place

-- a range's numbers are below 2 ^ 31
abbrev pub IsRange : Option (ℕ × ℕ) → Type 0
IsRange None = Unit {0}
IsRange (Some r) = (r.0 < 2 ^ 31) × (r.1 < 2 ^ 31)

abbrev pub is_input : Role → Bool
is_input Input = true
is_input Output = false
is_input Wire = false

abbrev pub is_output : Role → Bool
is_output Input = false
is_output Output = true
is_output Wire = false

abbrev pub is_port : Role → Bool
is_port Input = true
is_port Output = true
is_port Wire = false

-- a variable with its name
abbrev pub Entry : Type 0
Entry = List ℕ × Variable

-- the name is one, and the range's numbers are in bounds
pub record IsEntry (v : Entry) : Type 0 where
  pub name : IsName v.0
  pub range : IsRange v.1.range

-- the bit is one of a variable that stands
pub record IsBit (variables : List Entry) (bit : BitName) : Type 0 where
  pub entry : Entry
  pub stands : slice_get variables bit.variable ≡ Some entry
  pub place : bit.place < range_width entry.1.range

-- a bit as texts name it: the variable's name, and the index where the variable is a vector
pub record Bit : Type 0 where
  pub name : List ℕ
  pub index : Option ℕ

abbrev pub bit_in : Option Entry → ℕ → Bit
bit_in None place = record { name = []; index = None }
bit_in (Some v) place = record { name = v.0; index = option_map (λ r. index_at r place) v.1.range }

-- the text's name of a bit
abbrev pub bit_of : List Entry → BitName → Bit
bit_of variables bit = bit_in (slice_get variables bit.variable) bit.place

-- the place of the clock where it is a bit of the variable of this number
abbrev pub clock_place : Option BitName → ℕ → Option ℕ
clock_place None number = None
clock_place (Some c) number = if c.variable == number then Some c.place else None

-- the places below a width but one
abbrev pub places_but : Option ℕ → ℕ → List ℕ
places_but None width = range_with_len 0 width
places_but (Some place) width = range_with_len 0 place ++ range_with_len (place + 1) (width - (place + 1))

-- the bit of this place of the variable of this number
abbrev pub bit_at : ℕ → ℕ → BitName
bit_at number place = record { variable = number; place = place }

-- the bits of the variable of this number but the clock's, from left to right
abbrev pub data_bits : Option BitName → ℕ → Variable → List BitName
data_bits clock number v = map (bit_at number) (places_but (clock_place clock number) (range_width v.range))

-- the data bits of the variables whose role passes, where the first variable has this number
abbrev pub role_bits : (Role → Bool) → Option BitName → ℕ → List Entry → List BitName
role_bits passes clock number [] = []
role_bits passes clock number (v ∷ vs) = (if passes v.1.role then data_bits clock number v.1 else []) ++ role_bits passes clock (number + 1) vs

-- two bit names are one
abbrev pub bit_eq : BitName → BitName → Bool
bit_eq a b = nat_eq a.variable b.variable && nat_eq a.place b.place

-- a bit stands before another: in a variable before its own, or further left in the same one
abbrev pub StandsBefore : BitName → BitName → Type 0
StandsBefore b c = (b.variable < c.variable) ⊎ ((b.variable ≡ c.variable) × (b.place < c.place))

-- how many variables are ports
abbrev pub ports_of : List Entry → ℕ
ports_of variables = count_by (λ v. is_port v.1.role) variables

-- the bits of all variables together
abbrev pub bit_count : List Entry → ℕ
bit_count [] = 0
bit_count (v ∷ vs) = range_width v.1.range + bit_count vs

-- the most bits that a text's variables have: where names of this project's own are allowed, and where not
abbrev pub limit_of : Bool → ℕ
limit_of true = 134217728
limit_of false = 2097152
