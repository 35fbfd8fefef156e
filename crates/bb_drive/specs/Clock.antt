-- The clock: the input bit that feeds every clock pin through Buf gates alone.
use Rattle.std.specs.Prelude.{ℕ, nat_eq, zero, suc, Bool, true, false, not, ◌&&◌, List, [], ◌∷◌, ◌++◌, map, length, find, flat_map, Option, Some, None, if◌then◌else◌}
use Rattle.std.specs.Option.{option_or}
use Rattle.bb_base.specs.declared.operator.Op.{Op}
use Rattle.bb_base.specs.declared.operator.Op.TheVariants as op
use Rattle.bb_base.specs.Net.{Gate}
use Rattle.bb_base.specs.Variables.{Entry}
use Rattle.bb_fault.specs.declared.fault.ElabFault.{ElabFault}
use Rattle.bb_fault.specs.declared.fault.ElabFault.TheVariants.{ClockNotInput, TwoClocks, ClockAsData}
use Rattle.bb_fault.specs.Firsts.{on_some}
use Rattle.bb_fault.specs.Work.{Work}
use Rattle.bb_drive.specs.Nets.{input_bits, output_bits, has_bit, first_net, bit_text}

abbrev pub is_buf : Op → Bool
is_buf op.Buf = true
is_buf op.And = false
is_buf op.Nand = false
is_buf op.Or = false
is_buf op.Nor = false
is_buf op.Xor = false
is_buf op.Xnor = false
is_buf op.Not = false
is_buf op.Zero = false
is_buf op.One = false

abbrev pub first_of : List ℕ → Option ℕ
first_of [] = None
first_of (n ∷ ns) = Some n

abbrev pub copied_by : Option (Gate ℕ) → Option ℕ
copied_by None = None
copied_by (Some g) = if is_buf g.op then first_of g.ins else None

-- the net that a Buf gate copies to this one
abbrev pub copied_net : List (Gate ℕ) → ℕ → Option ℕ
copied_net gates b = copied_by (find (λ g. nat_eq b g.out) gates)

-- where the way back through Buf gates ends, or stands after so many
abbrev pub origin_within : ℕ → List (Gate ℕ) → ℕ → ℕ
origin_within zero gates b = b
origin_within (suc steps) gates b = on_some (copied_net gates b) b (origin_within steps gates)

-- where it ends; a way that is longer than there are gates is a ring, and stands on a net that a gate drives
abbrev pub origin : Work → ℕ → ℕ
origin w b = origin_within (length w.gates) w.gates b

abbrev pub clock_pins : Work → List ℕ
clock_pins w = map (λ f. f.clock) w.flops

-- the fault of the first net of a clock pin that no input feeds
abbrev pub clock_not_input : List Entry → Work → Option ElabFault
clock_not_input vars w = first_net ClockNotInput (λ b. has_bit (clock_pins w) b && not (has_bit (input_bits vars) (origin w b))) vars w

abbrev pub clocks_fault : List Entry → Work → List ℕ → Option ElabFault
clocks_fault vars w [] = None
clocks_fault vars w (first ∷ others) =
    on_some (find (λ b. not (nat_eq first b)) others) None
    (λ second. Some (TwoClocks ((bit_text vars first).name, (bit_text vars first).index) ((bit_text vars second).name, (bit_text vars second).index)))

-- the fault of the first flip-flop's clock and the first other one, by flip-flops
abbrev pub two_clocks : List Entry → Work → Option ElabFault
two_clocks vars w = clocks_fault vars w (map (origin w) (clock_pins w))

-- the clock, where there is a flip-flop
abbrev pub clock_of : Work → Option ℕ
clock_of w = first_of (map (origin w) (clock_pins w))

-- a net that is the clock, or is fed from it through Buf gates alone
abbrev pub is_clock : Work → ℕ → Bool
is_clock w b = on_some (clock_of w) false (λ clock. nat_eq clock (origin w b))

-- what is read as data: by the outside, by gates other than Buf, and by d pins
abbrev pub read_as_data : List Entry → Work → List ℕ
read_as_data vars w = output_bits vars ++ (flat_map (λ g. if is_buf g.op then [] else g.ins) w.gates ++ map (λ f. f.d) w.flops)

-- the fault of the first net of the clock that is read so
abbrev pub clock_as_data : List Entry → Work → Option ElabFault
clock_as_data vars w = first_net ClockAsData (λ b. is_clock w b && has_bit (read_as_data vars w) b) vars w

-- the first fault of clocks
abbrev pub clock_fault : List Entry → Work → Option ElabFault
clock_fault vars w = option_or (clock_not_input vars w) (option_or (two_clocks vars w) (clock_as_data vars w))

-- a net that is not the clock's
abbrev pub is_data : Work → ℕ → Bool
is_data w b = not (is_clock w b)
