-- Which bits are nets, what drives them, and how faults name them. `vars` are all variables, those of made nets among them.
use Rattle.std.specs.Prelude.{ℕ, suc, ◌+◌, ◌-◌, Bool, not, ◌||◌, nat_eq, nat_lt, List, [], ◌∷◌, ◌++◌, map, length, take, filter, find, flat_map, count_by, Option, None, if◌then◌else◌}
use Rattle.std.specs.List.{list_any, range_with_len}
use Rattle.std.specs.Option.{option_map, option_or}
use Rattle.std.specs.Str.{bytes_eq}
use Rattle.bb_base.specs.Variables.{Entry, Bit, bit_of, range_width, is_input, is_output, bit_count}
use Rattle.bb_base.specs.declared.variable.Role.{Role}
use Rattle.bb_base.specs.declared.variable.Role.TheVariants.{Wire}
use Rattle.bb_base.specs.declared.variable.BitName.{BitName}
use Rattle.bb_fault.specs.declared.fault.ElabFault.{ElabFault}
use Rattle.bb_fault.specs.declared.fault.ElabFault.TheVariants.{TwoDrivers, Undriven}
use Rattle.bb_fault.specs.Work.{Work}
use Rattle.bb_base.specs.OwnNames.{made_name}

-- made variables --------------------------------------------------------

abbrev pub made_count : List Entry → Work → ℕ
made_count table w = w.fresh - bit_count table

abbrev pub is_variable : List Entry → List ℕ → Bool
is_variable table name = list_any (λ v. bytes_eq name v.0) table

-- the first so many names bt_w<k>, with k from 0, that are no variables
abbrev pub made_names : List Entry → ℕ → List (List ℕ)
made_names table count = take count (filter (λ n. not (is_variable table n)) (map made_name (range_with_len 0 (count + length table))))

abbrev pub made_variable : List ℕ → Entry
made_variable name = (name, record { range = None; role = Wire })

-- the text's variables, then a scalar wire for each made net
abbrev pub all_variables : List Entry → Work → List Entry
all_variables table w = table ++ map made_variable (made_names table (made_count table w))

-- bits ------------------------------------------------------------------

-- the numbers of the bits of the variables whose role passes, where the first variable's bits begin at this number
abbrev pub bits_from : (Role → Bool) → ℕ → List Entry → List ℕ
bits_from passes first [] = []
bits_from passes first (v ∷ vs) =
    (if passes v.1.role then range_with_len first (range_width v.1.range) else []) ++ bits_from passes (first + range_width v.1.range) vs

abbrev pub input_bits : List Entry → List ℕ
input_bits vars = bits_from is_input 0 vars

abbrev pub output_bits : List Entry → List ℕ
output_bits vars = bits_from is_output 0 vars

-- the bits that are driven, one entry a driver; an input bit has one by itself
abbrev pub bits_driven : List Entry → Work → List ℕ
bits_driven vars w = input_bits vars ++ (map (λ g. g.out) w.gates ++ map (λ f. f.q) w.flops)

-- the bits that are read: by the outside, gates, d pins and clock pins
abbrev pub bits_read : List Entry → Work → List ℕ
bits_read vars w = output_bits vars ++ (flat_map (λ g. g.ins) w.gates ++ (map (λ f. f.d) w.flops ++ map (λ f. f.clock) w.flops))

abbrev pub has_bit : List ℕ → ℕ → Bool
has_bit bits b = list_any (nat_eq b) bits

-- the nets in their order: a bit is one where it is driven or read
abbrev pub nets : List Entry → Work → List ℕ
nets vars w = filter (λ b. has_bit (bits_driven vars w) b || has_bit (bits_read vars w) b) (range_with_len 0 w.fresh)

-- names of bits ---------------------------------------------------------

-- the variable and the place of the bit of this number, where the first variable has that number
abbrev pub bit_name : ℕ → List Entry → ℕ → BitName
bit_name number [] b = record { variable = number; place = b }
bit_name number (v ∷ vs) b = if nat_lt b (range_width v.1.range) then record { variable = number; place = b } else bit_name (suc number) vs (b - range_width v.1.range)

-- how texts name the bit of this number
abbrev pub bit_text : List Entry → ℕ → Bit
bit_text vars b = bit_of vars (bit_name 0 vars b)

-- the fault of the first net that the test finds
abbrev pub first_net : (List ℕ → Option ℕ → ElabFault) → (ℕ → Bool) → List Entry → Work → Option ElabFault
first_net fault test vars w = option_map (λ b. fault (bit_text vars b).name (bit_text vars b).index) (find test (nets vars w))

-- faults ----------------------------------------------------------------

-- the fault of a net with two drivers
abbrev pub two_drivers : List Entry → Work → Option ElabFault
two_drivers vars w = first_net TwoDrivers (λ b. nat_lt 1 (count_by (nat_eq b) (bits_driven vars w))) vars w

-- and of one without any
abbrev pub undriven : List Entry → Work → Option ElabFault
undriven vars w = first_net Undriven (λ b. not (has_bit (bits_driven vars w) b)) vars w

-- the first fault of drivers
abbrev pub driver_fault : List Entry → Work → Option ElabFault
driver_fault vars w = option_or (two_drivers vars w) (undriven vars w)
